use Rattle.std.proofs.Common.{arith}
use Rattle.http_stream.proofs.ShortLaws.{long_front, full_front}
use Rattle.http_stream.proofs.intake.Intake.look_short.Goals as goal

pub returns-then-len-ge-MOST_HEAD_BYTES : goal.returns-then-len-ge-MOST_HEAD_BYTES
returns-then-len-ge-MOST_HEAD_BYTES c = λ over. long_front c.args.self.now.room over c.args.self.now.bytes.items c.requires.blank c.requires.none (omega arith)

pub returns-then-len-self : goal.returns-then-len-self
returns-then-len-self c = λ over. full_front c.args.self.now.room over c.args.self.now.bytes.items c.requires.blank c.requires.none (omega arith) (omega arith)
