use Rattle.std.proofs.Common.{◌≡◌, ◌∙◌, ap, length, rules, subst}
use Rattle.std.proofs.lemmas.List.{length-reverse}
use Rattle.desk_history.specs.Courses.{history_of}
use Rattle.desk_history.specs.Opened.{IsLegal}
use Rattle.desk_laws.specs.Best.{EachBest}
use Rattle.job_desk.specs.Desks.{DeskValue}
use Rattle.job_desk.proofs.desks.Desk.entries.Goals as goal

pub returns-clause-count : goal.returns-clause-count
returns-clause-count c =
    let e : c.len.result ≡ length (history_of c.self.inside.entries) = search (rules, length-reverse, c.len.ensures) in
    e ∙ ap (λ (v : DeskValue). length v.history) c.self.view_is

pub returns-clause-legal : goal.returns-clause-legal
returns-clause-legal c = subst (λ (v : DeskValue). IsLegal v.chairs v.history) c.self.view_is c.self.invariant.desk.legal

pub returns-clause-best : goal.returns-clause-best
returns-clause-best c =
    subst (λ (v : DeskValue). EachBest v.history) c.self.view_is
    (c.evidence_laws.ensures.each_best c.self.inside.chairs.items (history_of c.self.inside.entries) c.self.invariant.desk.legal c.self.invariant.editions)
