use Rattle.flow_solver.specs.Blocking.{IsWalk}
use Rattle.flow_solver.proofs.blocking.descending_link.Given as goal

abbrev pub invariant-loop-place : goal.invariant-loop-place
invariant-loop-place l = IsWalk l.state.network.now l.walk
