use Rattle.std.proofs.Common.{◌≡◌, ℕ, false}
use Rattle.std.specs.BinaryHeap.{heap_items, heap_len}
use Rattle.flow_solver.specs.Queue.{Waits}
use Rattle.flow_solver.specs.Search.{is_settled}
use Rattle.flow_solver.proofs.search.nearest.Given as goal

-- who waits waited, and of who waited the settled alone have left
abbrev pub invariant-loop-distance : goal.invariant-loop-distance
invariant-loop-distance l = record {
  only : (d v : ℕ) → Waits (heap_items l.queue.waiting) d v → Waits (heap_items l.initial.queue.waiting) d v;
  kept : (d v : ℕ) → Waits (heap_items l.initial.queue.waiting) d v → is_settled l.settled v ≡ false → Waits (heap_items l.queue.waiting) d v;
}

abbrev pub decreases-loop-distance : goal.decreases-loop-distance
decreases-loop-distance l = heap_len l.queue.waiting
