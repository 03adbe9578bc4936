use Rattle.http_stream.proofs.BodyLaws.{headed_more}
use Rattle.http_stream.proofs.TakingLaws.{step_here, stops_same, taken_here}
use Rattle.http_stream.proofs.intake.Intake.next_body.Goals as goal

pub take_request-requires-clause-head : goal.take_request-requires-clause-head
take_request-requires-clause-head g c =
    let h = c.args.headed in
    let came = c.in-Ok.ensures.came in
    headed_more c.args.self.now.room c.await_body.new.self.room c.args.self.now.bytes.items came.0 c.await_body.new.self.bytes.items h.head h.end h.count h.due c.requires.head c.in-Ok.ensures.same came.2

pub returns-in-Ok-clause-came : goal.returns-in-Ok-clause-came
returns-in-Ok-clause-came g c =
    let h = c.args.headed in
    let came = c.in-Ok.ensures.came in
    let headed = headed_more c.args.self.now.room c.await_body.new.self.room c.args.self.now.bytes.items came.0 c.await_body.new.self.bytes.items h.head h.end h.count h.due c.requires.head c.in-Ok.ensures.same came.2 in (
      came.0,
      came.1,
      taken_here c.args.self.now.room c.await_body.new.self.room _ c.args.self.now.bytes.items came.0 c.await_body.new.self.bytes.items _ h.due c.take_request.result c.in-Ok.ensures.same came.2 c.take_request.ensures.taken,
      step_here (g.S.Source.left c.await_body.new.source) c.args.self.now.room c.await_body.new.self.room c.args.self.now.bytes.items came.0 c.await_body.new.self.bytes.items h.head h.end h.count h.due c.take_request.result c.in-Ok.ensures.same came.2 headed came.3 c.take_request.ensures.memory,
    )

pub returns-in-Err-clause-came : goal.returns-in-Err-clause-came
returns-in-Err-clause-came g c =
    let came = c.in-Err.ensures.came in (
      came.0,
      came.1,
      tt,
      stops_same (g.S.Source.left c.await_body.new.source) c.args.self.now.room c.await_body.new.self.room c.args.self.now.bytes.items came.0 c.await_body.new.self.bytes.items c.in-Err.stop c.args.headed.due c.in-Err.ensures.same came.2 came.3,
    )
