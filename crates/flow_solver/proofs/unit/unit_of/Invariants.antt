use Rattle.flow_solver.proofs.Costing.{IsUnitTo}
use Rattle.flow_solver.proofs.unit.unit_of.Given as goal

-- it is the unit of the costs so far
abbrev pub invariant-loop-place : goal.invariant-loop-place
invariant-loop-place l = IsUnitTo l.net l.place l.unit
