use Rattle.std.proofs.Common.{◌≡◌}
use Rattle.flow_solver.specs.Calm.{IsCalm}
use Rattle.flow_solver.proofs.blocking.block.Given as goal

abbrev pub invariant-loop-pass : goal.invariant-loop-pass
invariant-loop-pass l = record {
  network : l.state.network.now ≡ l.initial.state.network.now;
  calm : IsCalm l.state;
}
