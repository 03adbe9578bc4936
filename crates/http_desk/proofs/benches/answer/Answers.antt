use Rattle.http_desk.proofs.ShownLaws.{does_show}
use Rattle.http_desk.proofs.benches.answer.Goals as goal

pub returns-clause-right : goal.returns-clause-right
returns-clause-right g c =
    let legal = c.entries-entries.ensures.legal in
    let chairs = c.args.desk.now.chairs in
    let H = c.args.desk.now.history in
    does_show chairs H c.args.request c.answer.result c.answer.new.self.history (c.evidence_laws.ensures.evidence chairs H legal) (c.evidence_laws.ensures.published chairs H legal) c.answer.ensures.step
