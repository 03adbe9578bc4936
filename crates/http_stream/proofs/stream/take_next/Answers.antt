use Rattle.std.proofs.Common.{[], ◌++◌}
use Rattle.std.proofs.lemmas.List.{append-nil}
use Rattle.http_stream.specs.Exchanges.{continued}
use Rattle.http_stream.specs.declared.ending.StreamEnd.TheVariants as ends
use Rattle.http_stream.proofs.ReadingLaws.{added_none}
use Rattle.http_stream.proofs.TurnLaws.{caused_end, next_ends}
use Rattle.http_stream.proofs.stream.take_next.Goals as goal

pub returns-in-Ok-clause-came : goal.returns-in-Ok-clause-came
returns-in-Ok-clause-came g c =
    let came = c.in-Ok.ensures.came in
    (came.0, [], came.1, added_none, (c.args.headed.due, came.2, append-nil (continued c.args.headed.due [])))

pub returns-in-Err-clause-came : goal.returns-in-Err-clause-came
returns-in-Err-clause-came g c =
    let came = c.in-Err.ensures.came in
    let out = c.close.ensures.out in
    (came.0, out.0, came.1, out.1, next_ends (g.S.Source.left c.next_body.new.source) c.args.intake.now.room (c.args.intake.now.bytes.items ++ came.0) c.in-Err.stop c.args.headed.due c.close.result out.0 came.3 out.2)

pub returns-in-Err-clause-read : goal.returns-in-Err-clause-read
returns-in-Err-clause-read g c = caused_end _ _ c.close.result ends.ReadFault c.in-Err.ensures.later (λ e. c.in-Err.ensures.fault (c.close.ensures.read e))

pub returns-in-Err-clause-write : goal.returns-in-Err-clause-write
returns-in-Err-clause-write g c = caused_end _ _ c.close.result ends.WriteFault c.close.ensures.later c.close.ensures.fault
