use Rattle.flow_solver.specs.Coarse.{AreRanks}
use Rattle.flow_solver.proofs.global_update.take_next.Given as goal

abbrev pub invariant-loop-rank : goal.invariant-loop-rank
invariant-loop-rank l = AreRanks l.net l.ranks
