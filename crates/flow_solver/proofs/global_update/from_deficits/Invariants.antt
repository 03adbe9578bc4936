use Rattle.flow_solver.specs.Coarse.{AreRanks}
use Rattle.flow_solver.proofs.global_update.from_deficits.Given as goal

abbrev pub invariant-loop-node : goal.invariant-loop-node
invariant-loop-node l = AreRanks l.net l.ranks
