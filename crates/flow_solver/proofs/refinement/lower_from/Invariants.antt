use Rattle.flow_solver.specs.Coarse.{IsCoarse}
use Rattle.flow_solver.proofs.refinement.lower_from.Given as goal

abbrev pub invariant-loop-place : goal.invariant-loop-place
invariant-loop-place l = IsCoarse l.net l.links l.coarse
