use Rattle.std.proofs.Common.{◌≡◌, ℕ, length}
use Rattle.bounded_network.specs.Network.{potential_at}
use Rattle.flow_solver.specs.State.{IsWithin, most_cost}
use Rattle.flow_solver.proofs.guess.first_potentials.Given as goal

-- the potentials stay small
abbrev pub invariant-loop-round : goal.invariant-loop-round
invariant-loop-round l = record {
  long : length l.potentials.items ≡ l.net.nodes;
  small : (v : ℕ) → IsWithin most_cost (potential_at l.potentials.items v);
}
