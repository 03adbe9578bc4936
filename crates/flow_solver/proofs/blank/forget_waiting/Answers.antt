use Rattle.std.proofs.Common.{◌<◌, ◌≤◌, length, List, ℕ, arith, inl, inr, subst}
use Rattle.std.specs.BinaryHeap.{heap_items}
use Rattle.std.specs.declared.cmp.Reverse.{Reverse}
use Rattle.std.proofs.lemmas.List.{take_all}
use Rattle.flow_solver.specs.Search.{IsCleared}
use Rattle.flow_solver.proofs.Members.{Waits-at, Waits-take_more, entry_at}
use Rattle.flow_solver.proofs.blank.forget_waiting.Goals as goal

pub forget-requires-clause-distances_in : goal.forget-requires-clause-distances_in
forget-requires-clause-distances_in c =
    let items : List (Reverse ℕ × ℕ) = heap_items c.args.queue.now.waiting in
    let b : c.loop-place.place < length items = rw c.waiting-nodes.ensures at c.loop-place-test.true in
    let h = c.requires.distances_in (entry_at items c.loop-place.place).0.0 (entry_at items c.loop-place.place).1 (Waits-at items c.loop-place.place b) in
    rw c.waiting-nodes.ensures (omega (arith, h, c.loop-place.invariant.distances_long))

pub forget-requires-clause-settled_in : goal.forget-requires-clause-settled_in
forget-requires-clause-settled_in c =
    let items : List (Reverse ℕ × ℕ) = heap_items c.args.queue.now.waiting in
    let b : c.loop-place.place < length items = rw c.waiting-nodes.ensures at c.loop-place-test.true in
    let h = c.requires.distances_in (entry_at items c.loop-place.place).0.0 (entry_at items c.loop-place.place).1 (Waits-at items c.loop-place.place b) in
    rw c.waiting-nodes.ensures (omega (arith, h, c.loop-place.invariant.settled_long, c.requires.settled_in))

pub loop-place-preserved : goal.loop-place-preserved
loop-place-preserved c =
    let items : List (Reverse ℕ × ℕ) = heap_items c.args.queue.now.waiting in
    let b : c.loop-place.place < length items = rw c.waiting-nodes.ensures at c.loop-place-test.true in
    let was = c.loop-place.invariant in
    let done = c.forget.ensures in
    let here = rw c.waiting-nodes.ensures at done.cleared in
    record {
      distances_long = omega (arith, done.distances_long, was.distances_long);
      settled_long = omega (arith, done.settled_long, was.settled_long);
      cleared = λ d v waits. elim (Waits-take_more items c.loop-place.place d v b waits) [
        | inl before ↦ done.stays v (was.cleared d v before)
        | inr at ↦ subst (λ x. IsCleared c.forget.new.distances.items c.forget.new.settled.items x) at here
      ];
      stays = λ v cleared. done.stays v (was.stays v cleared);
    }

pub returns-clause-cleared : goal.returns-clause-cleared
returns-clause-cleared c = λ d v waits.
    let items : List (Reverse ℕ × ℕ) = heap_items c.args.queue.now.waiting in
    let end : length items ≤ c.loop-place.place = rw c.waiting-nodes.ensures at c.loop-place-test.false in
    c.loop-place.invariant.cleared d v (rw (take_all c.loop-place.place items end) waits)
