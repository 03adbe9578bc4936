use Rattle.std.proofs.Common.{false}
use Rattle.http_stream.proofs.FrontLaws.{bad_front}
use Rattle.http_stream.proofs.intake.Intake.test_found.Goals as goal

pub returns-in-None-clause-stops : goal.returns-in-None-clause-stops
returns-in-None-clause-stops c =
    bad_front c.args.self.now.room false c.args.self.now.bytes.items c.args.end c.requires.ended.0 c.requires.ended.1 (rw c.in-None.is at c.requires.reads)
