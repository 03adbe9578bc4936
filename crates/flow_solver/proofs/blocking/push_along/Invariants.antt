use Rattle.std.proofs.Common.{◌≡◌}
use Rattle.flow_solver.specs.Calm.{IsCalm}
use Rattle.flow_solver.proofs.blocking.push_along.Given as goal

abbrev pub invariant-loop-place : goal.invariant-loop-place
invariant-loop-place l = record {
  network : l.state.network.now ≡ l.initial.state.network.now;
  calm : IsCalm l.state;
}
