use Rattle.std.proofs.Common.{◌∙◌, ap, length}
use Rattle.desk_history.specs.Courses.{history_of}
use Rattle.desk_history.specs.Histories.{publications}
use Rattle.job_desk.specs.Desks.{DeskValue}
use Rattle.job_desk.proofs.desks.Desk.publications.Goals as goal

pub returns : goal.returns
returns c = c.publications.ensures (history_of c.self.inside.entries) c.self.invariant.desk.kept.are ∙ ap (λ (v : DeskValue). length (publications v.history)) c.self.view_is
