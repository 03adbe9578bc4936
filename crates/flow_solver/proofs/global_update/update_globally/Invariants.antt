use Rattle.flow_solver.specs.Coarse.{IsCoarse}
use Rattle.flow_solver.proofs.global_update.update_globally.Given as goal

abbrev pub invariant-loop-node : goal.invariant-loop-node
invariant-loop-node l = IsCoarse l.net l.links l.coarse
