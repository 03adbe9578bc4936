use Rattle.http_stream.proofs.ReadingLaws.{head_unread}
use Rattle.http_stream.proofs.intake.Intake.fill_head.Goals as goal

pub returns-in-Ok-eq0-clause-fault : goal.returns-in-Ok-eq0-clause-fault
returns-in-Ok-eq0-clause-fault g c = λ e. absurd (c.stop_short.ensures.other e)

pub returns-in-Err-clause-came : goal.returns-in-Err-clause-came
returns-in-Err-clause-came g c =
    let came = c.in-Err.ensures.came in
    (came.0, came.1, came.2, head_unread (g.S.Source.left c.fill.new.source) c.args.self.now.room c.fill.new.self.room c.args.self.now.bytes.items c.fill.new.self.bytes.items came.0 c.in-Err.stop c.in-Err.ensures.same came.2 came.3.0 came.3.1 c.requires.blank c.requires.short)
