use Rattle.std.proofs.Common.{◌≡◌}
use Rattle.flow_solver.specs.Blocking.{IsWalk}
use Rattle.flow_solver.specs.Calm.{IsCalm}
use Rattle.flow_solver.proofs.blocking.pass.Given as goal

abbrev pub invariant-loop-source : goal.invariant-loop-source
invariant-loop-source l = record {
  network : l.state.network.now ≡ l.initial.state.network.now;
  calm : IsCalm l.state;
  walk : IsWalk l.initial.state.network.now l.walk;
}
