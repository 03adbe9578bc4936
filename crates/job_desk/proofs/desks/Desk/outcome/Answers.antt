use Rattle.std.proofs.Common.{◌∙◌, ap}
use Rattle.desk_history.specs.Courses.{history_of}
use Rattle.desk_history.specs.Histories.{outcome}
use Rattle.job_desk.specs.Desks.{DeskValue}
use Rattle.job_desk.proofs.desks.Desk.outcome.Goals as goal

pub returns : goal.returns
returns c = c.outcome_of.ensures (history_of c.self.inside.entries) c.self.invariant.desk.kept.are ∙ ap (λ (v : DeskValue). outcome v.history c.args.job) c.self.view_is
