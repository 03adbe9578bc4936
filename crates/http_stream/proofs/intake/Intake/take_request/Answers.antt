use Rattle.http_stream.proofs.BodyLaws.{takes}
use Rattle.http_stream.proofs.intake.Intake.take_request.Goals as goal

pub returns-in-Ok-clause-taken : goal.returns-in-Ok-clause-taken
returns-in-Ok-clause-taken c =
    let h = c.args.headed in
    takes c.args.self.now.room c.drop_front.new.self.room c.args.self.now.bytes.items c.drop_front.new.self.bytes.items c.in-Ok.body.items h.head h.end h.count c.into_request.result h.due c.ends_stream-closes.result
    c.requires.head c.requires.there c.in-Ok.ensures c.into_request.ensures c.ends_stream-closes.ensures c.drop_front.ensures.rest c.drop_front.ensures.room
