use Rattle.flow_solver.specs.Coarse.{AreRanks}
use Rattle.flow_solver.proofs.global_update.ranks_of.Given as goal

abbrev pub invariant-loop-settled : goal.invariant-loop-settled
invariant-loop-settled l = AreRanks l.net l.ranks
