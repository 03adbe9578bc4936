use Rattle.flow_solver.specs.Coarse.{IsCoarse}
use Rattle.flow_solver.proofs.coarse.begin_phase.Given as goal

abbrev pub invariant-loop-node : goal.invariant-loop-node
invariant-loop-node l = IsCoarse l.net l.links l.coarse
