use Rattle.std.proofs.Common.{◌+◌, sym, ap, ◌∙◌, arith}
use Rattle.publication.proofs.Demands.{demand_total_push}
use Rattle.publication.proofs.paper_form.PaperFormLineForm.read.Goals as goal

pub returns-clause-ready : goal.returns-clause-ready
returns-clause-ready c =
    (ap (λ n. n + c.in_ok-demand.demand) c.requires.0 ∙ sym (demand_total_push c.args.before.now (record { id = c.in_ok-id.id; demand = c.in_ok-demand.demand })), omega (arith, c.if-self-demand-gt-MOST_DEMAND_IN_ALL.false))
