use Rattle.std.proofs.Common.{◌∙◌, ap}
use Rattle.desk_history.specs.Courses.{history_of}
use Rattle.desk_history.specs.Histories.{edits}
use Rattle.job_desk.specs.Desks.{DeskValue}
use Rattle.job_desk.proofs.desks.Desk.now.Goals as goal

pub returns : goal.returns
returns c = c.now.ensures (history_of c.self.inside.entries) c.self.invariant.desk.kept.are ∙ ap (λ (v : DeskValue). edits v.history) c.self.view_is
