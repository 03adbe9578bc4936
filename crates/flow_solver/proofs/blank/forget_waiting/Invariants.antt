use Rattle.std.proofs.Common.{◌≡◌, ℕ, length, take}
use Rattle.std.specs.BinaryHeap.{heap_items}
use Rattle.flow_solver.specs.Queue.{Waits}
use Rattle.flow_solver.specs.Search.{IsCleared}
use Rattle.flow_solver.proofs.blank.forget_waiting.Given as goal

-- the nodes so far are cleared
abbrev pub invariant-loop-place : goal.invariant-loop-place
invariant-loop-place l = record {
  distances_long : length l.distances.items ≡ length l.initial.distances.items;
  settled_long : length l.settled.items ≡ length l.initial.settled.items;
  cleared : (d v : ℕ) → Waits (take l.place (heap_items l.queue.waiting)) d v → IsCleared l.distances.items l.settled.items v;
  stays : (v : ℕ) → IsCleared l.initial.distances.items l.initial.settled.items v → IsCleared l.distances.items l.settled.items v;
}
