use Rattle.std.proofs.Common.{arith}
use Rattle.match_rules.proofs.GroupLaws.{group_count_few}
use Rattle.bounded_network.proofs.layout.group_node_of.Goals as goal

pub overflow_add-result : goal.overflow_add-result
overflow_add-result c =
    omega (arith, group_count_few c.args.rules.now, c.papers.ensures.len, c.papers.ensures.kept.papers.few, c.papers.ensures.kept.pairs.few, c.requires)

pub returns-clause-small : goal.returns-clause-small
returns-clause-small c =
    omega (arith, group_count_few c.args.rules.now, c.papers.ensures.len, c.papers.ensures.kept.papers.few, c.papers.ensures.kept.pairs.few, c.requires)
