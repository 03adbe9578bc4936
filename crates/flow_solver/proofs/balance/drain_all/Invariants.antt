use Rattle.std.proofs.Common.{◌≡◌, ℕ, ◌<◌}
use Rattle.std.specs.Prelude.{pos, ◌≤ℤ◌, IsNone}
use Rattle.flow_solver.specs.Search.{IsBlank}
use Rattle.flow_solver.specs.State.{excess_at}
use Rattle.flow_solver.specs.Calm.{IsCalm}
use Rattle.flow_solver.proofs.balance.drain_all.Given as goal

-- the state is kept, and no node so far has an excess
abbrev pub invariant-loop-source : goal.invariant-loop-source
invariant-loop-source l = record {
  network : l.state.network.now ≡ l.initial.state.network.now;
  blank : IsBlank l.initial.state.network.now l.search;
  calm : IsCalm l.state;
  even : (v : ℕ) → v < l.source → excess_at l.state.excess.items v ≤ℤ pos 0;
  patient : IsNone l.initial.patience → IsNone l.patience;
}
