use Rattle.flow_solver.proofs.Starts.{AreExcessesTo}
use Rattle.flow_solver.proofs.start.first_excess.Given as goal

-- each excess is what enters less what leaves over the arcs so far
abbrev pub invariant-loop-place : goal.invariant-loop-place
invariant-loop-place l = AreExcessesTo l.net l.flow l.place l.excess.items
