use Rattle.std.proofs.Common.{subst, sym}
use Rattle.desk_history.specs.Courses.{history_of}
use Rattle.desk_laws.specs.Best.{EachBest}
use Rattle.job_desk.specs.Desks.{DeskValue}
use Rattle.job_desk.proofs.desks.Desk.reopen.Goals as goal

pub of_reopened-requires-clause-legal : goal.of_reopened-requires-clause-legal
of_reopened-requires-clause-legal g c = c.in-Ok.ensures.legal c.args.chairs.items

pub returns-in-Ok-of_reopened-clause-best : goal.returns-in-Ok-of_reopened-clause-best
returns-in-Ok-of_reopened-clause-best g c =
    subst (λ (v : DeskValue). EachBest v.history) (sym c.in-Ok-of_reopened.ensures)
    (c.evidence_laws.ensures.each_best c.args.chairs.items (history_of c.in-Ok.reopened.entries) (c.in-Ok.ensures.legal c.args.chairs.items) c.in-Ok.ensures.editions)
