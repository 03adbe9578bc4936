use Rattle.std.proofs.Common.{◌∙◌, ap}
use Rattle.job_desk.specs.Desks.{DeskValue, let_go}
use Rattle.job_desk.proofs.desks.Desk.let_go.Goals as goal

pub returns : goal.returns
returns c = c.let_go.ensures ∙ ap (λ (v : DeskValue). let_go v.history c.args.bench c.args.from) c.self.view_is
