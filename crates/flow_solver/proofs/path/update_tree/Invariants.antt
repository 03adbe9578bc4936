use Rattle.std.proofs.Common.{◌≡◌, ◌≢◌, ℕ, ◌-◌, ◌<◌, length}
use Rattle.std.specs.Prelude.{pos, ◌-ℤ◌}
use Rattle.bounded_network.specs.Network.{potential_at}
use Rattle.flow_solver.specs.Search.{distance_at, reach_at}
use Rattle.flow_solver.proofs.path.update_tree.Given as goal

-- the potentials of the nodes so far have updated, and the rest are as they were
abbrev pub invariant-loop-place : goal.invariant-loop-place
invariant-loop-place l = record {
  long : length l.potentials ≡ length l.initial.potentials;
  updated : (i : ℕ) → i < l.place → potential_at l.potentials (reach_at l.tree i).node ≡ potential_at l.initial.potentials (reach_at l.tree i).node -ℤ pos (l.depth - distance_at l.distances (reach_at l.tree i).node);
  rest : (v : ℕ) → ((i : ℕ) → i < l.place → (reach_at l.tree i).node ≢ v) → potential_at l.potentials v ≡ potential_at l.initial.potentials v;
}
