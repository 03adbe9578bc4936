use Rattle.std.proofs.Common.{◌+◌, ◌∙◌, ap, arith}
use Rattle.std.proofs.lemmas.List.{get_or_read, take_all}
use Rattle.match_rules.specs.Rules.{demand_total, no_paper}
use Rattle.matcher_cli.proofs.DemandLaws.{demand_next, demand_room}
use Rattle.matcher_cli.proofs.made_line.demand_of.Goals as goal

pub overflow_add-sum : goal.overflow_add-sum
overflow_add-sum c =
    let is = get_or_read c.args.papers.now c.loop-paper.paper-index c.paper-item.result c.loop-paper-test.true c.paper-item.is no_paper in
    omega (arith, c.requires, c.loop-paper.invariant, demand_room c.args.papers.now c.loop-paper.paper-index c.paper-item.result c.loop-paper-test.true is)

pub loop-paper-preserved : goal.loop-paper-preserved
loop-paper-preserved c =
    let is = get_or_read c.args.papers.now c.loop-paper.paper-index c.paper-item.result c.loop-paper-test.true c.paper-item.is no_paper in
    omega (arith, c.loop-paper.invariant, demand_next c.args.papers.now c.loop-paper.paper-index (c.loop-paper.paper-index + 1) c.paper-item.result (omega arith) c.loop-paper-test.true is)

pub returns : goal.returns
returns c = c.loop-paper.invariant ∙ ap demand_total (take_all c.loop-paper.paper-index c.args.papers.now c.loop-paper-test.false)
