use Rattle.http_stream.proofs.TakingLaws.{headed_step}
use Rattle.http_stream.proofs.intake.Intake.next_head.Goals as goal

pub returns-in-Ok-clause-came : goal.returns-in-Ok-clause-came
returns-in-Ok-clause-came g c =
    let came = c.in-Ok.ensures.came in
    (came.0, came.1, came.2, headed_step (g.S.Source.left c.await_head.new.source) c.await_head.new.self.room c.await_head.new.self.bytes.items c.read_headed.result c.read_headed.ensures.stops)

pub returns-in-Err-clause-came : goal.returns-in-Err-clause-came
returns-in-Err-clause-came g c = c.in-Err.ensures.came
