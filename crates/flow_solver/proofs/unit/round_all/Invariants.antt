use Rattle.std.proofs.Common.{◌≡◌, ℕ, length}
use Rattle.bounded_network.specs.Network.{potential_at}
use Rattle.flow_solver.specs.State.{IsWithin, most_cost}
use Rattle.flow_solver.proofs.unit.round_all.Given as goal

-- the potentials stay small
abbrev pub invariant-loop-node : goal.invariant-loop-node
invariant-loop-node l = record {
  long : length l.potentials.items ≡ length l.initial.potentials.items;
  small : (v : ℕ) → IsWithin most_cost (potential_at l.potentials.items v);
}
