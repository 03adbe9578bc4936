use Rattle.std.proofs.Common.{◌≡◌, length}
use Rattle.flow_solver.proofs.coarse.excess_at_floors.Given as goal

abbrev pub invariant-loop-place : goal.invariant-loop-place
invariant-loop-place l = length l.excess.items ≡ l.net.nodes
