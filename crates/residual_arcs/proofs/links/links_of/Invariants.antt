use Rattle.residual_arcs.proofs.Linking.{AreLinksTo}
use Rattle.residual_arcs.proofs.links.links_of.Given as goal

-- the links of the nodes so far
abbrev pub invariant-loop-node : goal.invariant-loop-node
invariant-loop-node l = AreLinksTo l.net l.node l.all.items l.starts.items
