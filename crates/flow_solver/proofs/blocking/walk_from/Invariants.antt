use Rattle.std.proofs.Common.{◌≡◌, ◌<◌}
use Rattle.flow_solver.specs.Blocking.{IsWalk}
use Rattle.flow_solver.specs.Calm.{IsCalm}
use Rattle.flow_solver.proofs.blocking.walk_from.Given as goal

abbrev pub invariant-loop-move : goal.invariant-loop-move
invariant-loop-move l = record {
  network : l.state.network.now ≡ l.initial.state.network.now;
  calm : IsCalm l.state;
  walk : IsWalk l.initial.state.network.now l.walk;
  node_in : l.node < l.initial.state.network.now.nodes;
}
