use Rattle.flow_solver.specs.Coarse.{IsCoarse}
use Rattle.flow_solver.proofs.refinement.refine.Given as goal

abbrev pub invariant-loop-node : goal.invariant-loop-node
invariant-loop-node l = IsCoarse l.net l.links l.coarse

abbrev pub invariant-loop-round : goal.invariant-loop-round
invariant-loop-round l = IsCoarse l.net l.links l.coarse
