use Rattle.std.proofs.Common.{◌≡◌, ℕ, ◌<◌, length}
use Rattle.flow_solver.specs.Search.{IsCleared, reach_at}
use Rattle.flow_solver.proofs.blank.forget_tree.Given as goal

-- the nodes so far are cleared
abbrev pub invariant-loop-place : goal.invariant-loop-place
invariant-loop-place l = record {
  distances_long : length l.distances.items ≡ length l.initial.distances.items;
  settled_long : length l.settled.items ≡ length l.initial.settled.items;
  cleared : (i : ℕ) → i < l.place → IsCleared l.distances.items l.settled.items (reach_at l.tree i).node;
  stays : (v : ℕ) → IsCleared l.initial.distances.items l.initial.settled.items v → IsCleared l.distances.items l.settled.items v;
}
