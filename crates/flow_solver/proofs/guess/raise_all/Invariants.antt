use Rattle.std.proofs.Common.{◌≡◌, ℕ, length}
use Rattle.bounded_network.specs.Network.{potential_at}
use Rattle.flow_solver.specs.State.{IsWithin, most_cost}
use Rattle.flow_solver.proofs.guess.raise_all.Given as goal

-- the potentials stay small
abbrev pub invariant-loop-place : goal.invariant-loop-place
invariant-loop-place l = record {
  long : length l.potentials.items ≡ l.net.nodes;
  small : (v : ℕ) → IsWithin most_cost (potential_at l.potentials.items v);
}
