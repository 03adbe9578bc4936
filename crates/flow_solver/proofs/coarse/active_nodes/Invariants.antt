use Rattle.std.proofs.Common.{◌<◌, All}
use Rattle.flow_solver.proofs.coarse.active_nodes.Given as goal

abbrev pub invariant-loop-node : goal.invariant-loop-node
invariant-loop-node l = All (λ v. v < l.net.nodes) l.nodes.items
