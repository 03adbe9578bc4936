use Rattle.flow_solver.specs.Coarse.{IsCoarse}
use Rattle.flow_solver.proofs.scaling.all_phases.Given as goal

abbrev pub invariant-loop-phase : goal.invariant-loop-phase
invariant-loop-phase l = IsCoarse l.net l.links l.coarse
