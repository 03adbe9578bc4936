use Rattle.flow_solver.specs.Coarse.{AreRanks}
use Rattle.flow_solver.proofs.global_update.settle.Given as goal

abbrev pub invariant-loop-place : goal.invariant-loop-place
invariant-loop-place l = AreRanks l.net l.ranks
