use Rattle.std.proofs.Common.{◌≡◌, ℕ}
use Rattle.std.specs.Prelude.{pos, ◌≤ℤ◌, IsNone}
use Rattle.flow_solver.specs.Search.{IsBlank}
use Rattle.flow_solver.specs.State.{excess_at}
use Rattle.flow_solver.proofs.Endings.{worth}
use Rattle.flow_solver.specs.Calm.{IsCalm}
use Rattle.flow_solver.proofs.drain.drain.Given as goal

-- the state is kept, and who has too little or enough still has
abbrev pub invariant-draining : goal.invariant-draining
invariant-draining l = record {
  network : l.state.network.now ≡ l.initial.state.network.now;
  blank : IsBlank l.initial.state.network.now l.search;
  calm : IsCalm l.state;
  others : (v : ℕ) → excess_at l.initial.state.excess.items v ≤ℤ pos 0 → excess_at l.state.excess.items v ≤ℤ pos 0;
  patient : IsNone l.initial.patience → IsNone l.patience;
}

abbrev pub decreases-draining : goal.decreases-draining
decreases-draining l = worth (excess_at l.state.excess.items l.source)
