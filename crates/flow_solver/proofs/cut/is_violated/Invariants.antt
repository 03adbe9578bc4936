use Rattle.flow_solver.proofs.Cuts.{IsBalanceTo}
use Rattle.flow_solver.proofs.cut.is_violated.Given as goal

-- the balance of the arcs so far
abbrev pub invariant-loop-place : goal.invariant-loop-place
invariant-loop-place l = IsBalanceTo l.net l.marks l.place l.balance
