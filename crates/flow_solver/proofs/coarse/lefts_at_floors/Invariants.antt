use Rattle.std.proofs.Common.{◌≡◌, vec_len}
use Rattle.flow_solver.proofs.coarse.lefts_at_floors.Given as goal

abbrev pub invariant-loop-place : goal.invariant-loop-place
invariant-loop-place l = vec_len l.left ≡ l.place
