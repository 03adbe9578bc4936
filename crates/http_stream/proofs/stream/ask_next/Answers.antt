use Rattle.std.proofs.Common.{[], ◌++◌, List, ℕ, ap, subst, sym}
use Rattle.edge_io.specs.Told.{told}
use Rattle.http_stream.specs.declared.ending.StreamEnd.TheVariants as ends
use Rattle.http_stream.specs.Turns.{AsksNext}
use Rattle.http_stream.proofs.ReadingLaws.{added_none, added_then}
use Rattle.http_stream.proofs.TurnLaws.{asks_end, caused_end, caused_on}
use Rattle.http_stream.proofs.stream.ask_next.Goals as goal

pub returns-in-Ok-clause-came : goal.returns-in-Ok-clause-came
returns-in-Ok-clause-came g c =
    let asked = c.in-Ok.ensures.out in
    let came = c.take_next.ensures.came in
    (came.0, asked.0 ++ came.1, came.2, added_then _ _ _ asked.0 came.1 asked.1 came.3, rw (← asked.2) at came.4)

pub returns-in-Err-clause-came : goal.returns-in-Err-clause-came
returns-in-Err-clause-came g c =
    let h = c.args.headed in
    let asked = c.in-Err.ensures.out in
    ([], asked.0, added_none, asked.1, asks_end (g.S.Source.left c.args.source.now) c.args.intake.now.room c.args.intake.now.bytes.items asked.0 h.head h.end h.count h.due c.requires.head asked.2)

pub returns-in-Ok-clause-write : goal.returns-in-Ok-clause-write
returns-in-Ok-clause-write g c = caused_on _ _ _ c.take_next.result ends.WriteFault c.in-Ok.ensures.cause.later c.take_next.ensures.write
