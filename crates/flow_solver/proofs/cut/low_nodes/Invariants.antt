use Rattle.std.proofs.Common.{◌≡◌, vec_len}
use Rattle.flow_solver.proofs.cut.low_nodes.Given as goal

abbrev pub invariant-loop-potential : goal.invariant-loop-potential
invariant-loop-potential l = vec_len l.marks ≡ l.potential-index
