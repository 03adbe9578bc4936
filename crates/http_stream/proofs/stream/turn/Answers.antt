use Rattle.std.proofs.Common.{[], ◌++◌, refl}
use Rattle.http_stream.specs.declared.ending.StreamEnd.TheVariants as ends
use Rattle.http_stream.proofs.ReadingLaws.{added_then}
use Rattle.http_stream.proofs.TurnLaws.{turns, turn_caused, turn_ended, turn_less, turn_read}
use Rattle.http_stream.proofs.stream.turn.Goals as goal

pub returns-in-Ok-clause-came : goal.returns-in-Ok-clause-came
returns-in-Ok-clause-came g c =
    let asked = c.in-Ok.ensures.came in
    let answered = c.answer.ensures.answered in (
      asked.0,
      asked.1 ++ answered.1,
      asked.2,
      added_then _ _ _ asked.1 answered.1 asked.3 answered.3,
      turns g.H.Handler.does c.args.handler.now c.answer.new.handler c.args.intake.now.room (c.args.intake.now.bytes.items ++ asked.0) (g.S.Source.left c.next_request.new.source) c.next_request.new.intake.room c.next_request.new.intake.bytes.items c.in-Ok.asked answered.0 asked.1 answered.1 c.answer.result asked.4 answered.2 answered.4,
    )

pub returns-in-Err-clause-came : goal.returns-in-Err-clause-came
returns-in-Err-clause-came g c =
    let asked = c.in-Err.ensures.came in
    (asked.0, asked.1, asked.2, asked.3, ([], refl, asked.4.0, asked.4.1, asked.4.2))

pub returns-in-Ok-clause-less : goal.returns-in-Ok-clause-less
returns-in-Ok-clause-less g c =
    let asked = c.in-Ok.ensures.came in
    λ e. turn_less (g.S.Source.left c.next_request.new.source) c.args.intake.now.room (c.args.intake.now.bytes.items ++ asked.0) c.next_request.new.intake.room c.next_request.new.intake.bytes.items c.in-Ok.asked asked.1 asked.4

pub returns-in-Ok-clause-read : goal.returns-in-Ok-clause-read
returns-in-Ok-clause-read g c = turn_read _ _ c.answer.result c.in-Ok.ensures.read.later c.answer.ensures.read

pub returns-in-Ok-clause-write : goal.returns-in-Ok-clause-write
returns-in-Ok-clause-write g c = turn_caused _ _ _ c.answer.result ends.WriteFault c.in-Ok.ensures.write.later c.answer.ensures.later c.answer.ensures.fault

pub returns-in-Err-clause-read : goal.returns-in-Err-clause-read
returns-in-Err-clause-read g c = turn_ended _ _ c.in-Err.end ends.ReadFault c.in-Err.ensures.read

pub returns-in-Err-clause-write : goal.returns-in-Err-clause-write
returns-in-Err-clause-write g c = turn_ended _ _ c.in-Err.end ends.WriteFault c.in-Err.ensures.write
