use Rattle.std.proofs.Common.{arith}
use Rattle.bounded_network.proofs.Nodes.{group-paper-below}
use Rattle.bounded_network.proofs.layout.parent.Goals as goal

pub returns-clause-below : goal.returns-clause-below
returns-clause-below c =
    omega (arith, c.group_at.ensures.paper, group-paper-below c.args.rules.now c.args.group c.pairs-pairs.ensures.kept c.requires)
