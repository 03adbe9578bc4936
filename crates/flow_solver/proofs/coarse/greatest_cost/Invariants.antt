use Rattle.flow_solver.proofs.Costing.{IsGreatestTo}
use Rattle.flow_solver.proofs.coarse.greatest_cost.Given as goal

-- it is the greatest magnitude of a cost so far
abbrev pub invariant-loop-place : goal.invariant-loop-place
invariant-loop-place l = IsGreatestTo l.net l.place l.greatest
