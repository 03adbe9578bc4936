use Rattle.std.proofs.Common.{arith, inl, inr, subst}
use Rattle.flow_solver.specs.Search.{IsCleared}
use Rattle.flow_solver.proofs.blank.clear.Goals as goal

pub forget_waiting-requires-clause-distances_in : goal.forget_waiting-requires-clause-distances_in
forget_waiting-requires-clause-distances_in c = λ d v waits.
    omega (arith, c.requires.queued d v waits, c.forget_tree.ensures.distances_long, c.requires.distances_long)

pub returns : goal.returns
returns c =
    let tree_cleared = rw c.deref.ensures.value at c.forget_tree.ensures.cleared in
    let long = c.forget_tree.ensures in
    let after = c.forget_waiting.ensures in
    record {
      distances_long = omega (arith, after.distances_long, long.distances_long, c.requires.distances_long);
      reaches_long = c.requires.reaches_long;
      settled_long = omega (arith, after.settled_long, long.settled_long, c.requires.settled_long);
      tree = c.clear.ensures.items;
      cleared = λ v b. elim (c.requires.covered v b) [
        | inl was ↦ after.stays v (long.stays v was)
        | inr rest ↦ elim rest [
          | inl place ↦ after.stays v (subst (λ x. IsCleared c.forget_tree.new.distances.items c.forget_tree.new.settled.items x) place.2 (tree_cleared place.0 place.1))
          | inr waits ↦ after.cleared waits.0 v waits.1
        ]
      ];
      waiting = c.clear-2.ensures.none;
    }
