use Rattle.std.proofs.Common.{false, sym}
use Rattle.http_stream.proofs.FrontLaws.{fault_front}
use Rattle.http_stream.proofs.intake.Intake.test_head.Goals as goal

pub returns-in-Ok-clause-headed : goal.returns-in-Ok-clause-headed
returns-in-Ok-clause-headed c =
    (record { blank = c.requires.ended.0; ends = c.requires.ended.1; reads = c.requires.reads; tests = sym c.in-Ok.ensures }, c.is_due-due.ensures, c.requires.ended.2)

pub returns-in-Err-clause-stops : goal.returns-in-Err-clause-stops
returns-in-Err-clause-stops c =
    fault_front c.args.self.now.room false c.args.self.now.bytes.items c.args.end c.args.head c.in-Err.fault c.requires.ended.0 c.requires.ended.1 c.requires.reads (sym c.in-Err.ensures)
