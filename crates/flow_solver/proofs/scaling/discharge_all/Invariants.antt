use Rattle.flow_solver.specs.Coarse.{IsCoarse}
use Rattle.flow_solver.proofs.scaling.discharge_all.Given as goal

abbrev pub invariant-loop-discharge : goal.invariant-loop-discharge
invariant-loop-discharge l = IsCoarse l.net l.links l.coarse
