use Rattle.std.proofs.Common.{◌∙◌, ap}
use Rattle.desk_history.specs.Histories.{nth_of, publications}
use Rattle.job_desk.specs.Desks.{DeskValue}
use Rattle.job_desk.specs.Drawing.{drawn_of}
use Rattle.job_desk.proofs.desks.Desk.drawn.Goals as goal

pub returns : goal.returns
returns c = c.drawn_of.ensures ∙ ap (λ (v : DeskValue). drawn_of v.history (nth_of (publications v.history) c.args.publication)) c.self.view_is
