use Rattle.std.proofs.Common.{refl, rules, arith}
use Rattle.http_stream.proofs.ShortLaws.{finished_front, truncated_front}
use Rattle.http_stream.proofs.intake.Intake.stop_short.Goals as goal

pub returns-then-is_empty-clause-stops : goal.returns-then-is_empty-clause-stops
returns-then-is_empty-clause-stops c = (finished_front c.args.self.now.room c.args.self.now.bytes.items c.requires.blank c.requires.short (search rules), refl)

pub returns-else-is_empty-clause-stops : goal.returns-else-is_empty-clause-stops
returns-else-is_empty-clause-stops c = truncated_front c.args.self.now.room c.args.self.now.bytes.items c.requires.blank c.requires.short (search rules)
