use Rattle.std.proofs.Common.{◌++◌}
use Rattle.http_stream.specs.declared.ending.StreamEnd.TheVariants as ends
use Rattle.http_stream.proofs.ReadingLaws.{added_then}
use Rattle.http_stream.proofs.TurnLaws.{asks_shed, caused_end, caused_on, head_ends}
use Rattle.http_stream.proofs.stream.next_request.Goals as goal

pub returns-in-Ok-clause-came : goal.returns-in-Ok-clause-came
returns-in-Ok-clause-came g c =
    let head = c.in-Ok.ensures.came in
    let next = c.ask_next.ensures.came in
    (head.0 ++ next.0, next.1, added_then _ _ _ head.0 next.0 head.1 next.2, next.3, asks_shed (g.S.Source.left c.ask_next.new.source) c.args.intake.now.room c.next_head.new.self.room c.args.intake.now.bytes.items head.0 c.next_head.new.self.bytes.items next.0 c.ask_next.new.intake.room c.ask_next.new.intake.bytes.items c.ask_next.result next.1 head.2 next.4)

pub returns-in-Err-clause-came : goal.returns-in-Err-clause-came
returns-in-Err-clause-came g c =
    let head = c.in-Err.ensures.came in
    let out = c.close.ensures.out in
    (head.0, out.0, head.1, out.1, head_ends (g.S.Source.left c.next_head.new.source) c.args.intake.now.room c.next_head.new.self.room (c.args.intake.now.bytes.items ++ head.0) c.next_head.new.self.bytes.items c.in-Err.stop c.close.result out.0 head.2 head.3 out.2)

pub returns-in-Ok-clause-read : goal.returns-in-Ok-clause-read
returns-in-Ok-clause-read g c = caused_on _ _ _ c.ask_next.result ends.ReadFault c.in-Ok.ensures.later c.ask_next.ensures.read

pub returns-in-Err-clause-read : goal.returns-in-Err-clause-read
returns-in-Err-clause-read g c = caused_end _ _ c.close.result ends.ReadFault c.in-Err.ensures.later (λ e. c.in-Err.ensures.fault (c.close.ensures.read e))

pub returns-in-Err-clause-write : goal.returns-in-Err-clause-write
returns-in-Err-clause-write g c = caused_end _ _ c.close.result ends.WriteFault c.close.ensures.later c.close.ensures.fault
