-- The state once the potentials of the settled nodes are updated.
use Rattle.std.proofs.Common.{subst, ◌≡◌, ◌≢◌, ℕ, ◌-◌, ◌*◌, ◌<◌, ◌≤◌, Bool, true, false, List, length, refl, ap, ◌∙◌, arith, inl, inr}
use Rattle.std.specs.Prelude.{ℤ, pos, ◌+ℤ◌, ◌-ℤ◌, ◌≤ℤ◌, ◌<ℤ◌, slice_index}
use Rattle.std.specs.declared.cmp.Reverse.{Reverse}
use Rattle.std.proofs.lemmas.Int.{ints}
use Rattle.std.proofs.lemmas.Bool.{cases_Bool, cases_lt}
use Rattle.bounded_network.specs.Network.{AreOptimal, arc_at, potential_at}
use Rattle.flow_solver.specs.declared.state.State.{State}
use Rattle.flow_solver.specs.declared.search.Reach.{Reach}
use Rattle.residual_arcs.specs.Step.{start_of, end_of, left_on}
use Rattle.flow_solver.specs.Step.{step_reduced}
use Rattle.flow_solver.specs.State.{IsWithin, IsState, AreCalm, AreUpdated, excess_at, most_cost}
use Rattle.flow_solver.specs.Search.{distance_at, reach_at, is_settled, IsSearchOf}
use Rattle.flow_solver.specs.Path.{IsPath}
use Rattle.flow_solver.proofs.Searches.{step_not_negative, settled_apart}
use Rattle.flow_solver.proofs.Settling.{tree_short}
use Rattle.residual_arcs.proofs.Steps.{start_in, end_in}

module _ (state : State) (source node : ℕ) (tree reaches : List Reach) (distances : List ℕ) (settled : List Bool) (waiting : List (Reverse ℕ × ℕ))
    (search : IsSearchOf state source node tree reaches distances settled waiting)
    (lacks : excess_at state.excess.items node <ℤ pos 0) (calm : AreCalm state.network.now state.excess.items state.potentials.items)
    (potentials : List ℤ) (updated : AreUpdated state.potentials.items potentials distances (distance_at distances node)) where
  -- a node's new potential
  updated_at : (v : ℕ) → v < state.network.now.nodes → potential_at potentials v ≡ potential_at state.potentials.items v -ℤ pos (distance_at distances node - distance_at distances v)
  updated_at v b = updated.each v (omega (arith, state.kept.potentials_long, b))

  -- a node nearer than the last one is settled, and is another
  nearer_settled : (v : ℕ) → v < state.network.now.nodes → distance_at distances v < distance_at distances node → (is_settled settled v ≡ true) × (v ≢ node)
  nearer_settled v b near = elim (cases_Bool (is_settled settled v)) [
    | inl s ↦ (s, λ e. let same = ap (distance_at distances) e in absurd (omega (arith, near, same)))
    | inr uns ↦ absurd (omega (arith, near, search.further v b uns))
  ]

  -- a step's new reduced cost
  step_after : (a : ℕ) (forward : Bool) → a < length state.network.now.arcs → step_reduced (arc_at state.network.now a) forward potentials ≡
      (step_reduced (arc_at state.network.now a) forward state.potentials.items -ℤ pos (distance_at distances node - distance_at distances (start_of (arc_at state.network.now a) forward)))
      +ℤ pos (distance_at distances node - distance_at distances (end_of (arc_at state.network.now a) forward))
  step_after a forward b =
      let s = updated_at (start_of (arc_at state.network.now a) forward) (start_in state.network.now.nodes (arc_at state.network.now a) forward (state.good.each a b)) in
      let e = updated_at (end_of (arc_at state.network.now a) forward) (end_in state.network.now.nodes (arc_at state.network.now a) forward (state.good.each a b)) in
      omega (arith, ints, s, e)

  not_negative_after : (a : ℕ) (forward : Bool) → a < length state.network.now.arcs → 0 < left_on (arc_at state.network.now a) (slice_index state.flow.items a) forward → pos 0 ≤ℤ step_reduced (arc_at state.network.now a) forward potentials
  not_negative_after a forward b room =
      let u : ℕ = start_of (arc_at state.network.now a) forward in
      let after = step_after a forward b in
      let before = step_not_negative state a forward b room in
      elim (cases_lt (distance_at distances u) (distance_at distances node)) [
        | inl near ↦
            let s = nearer_settled u (start_in state.network.now.nodes (arc_at state.network.now a) forward (state.good.each a b)) near in
            let relaxed = search.relaxed u s.0 s.1 a forward b refl room in
            omega (arith, ints, after, near, relaxed)
        | inr far ↦ omega (arith, ints, after, before, far)
      ]

  AreOptimal-updated : AreOptimal state.network.now state.flow.items potentials
  AreOptimal-updated = record {
    may_rise = λ a b less. not_negative_after a true b (omega arith);
    may_fall = λ a b more. let h = not_negative_after a false b (omega arith) in omega (arith, ints, h);
  }

  bounded_at : (v : ℕ) → v < state.network.now.nodes → IsWithin (most_cost * state.network.now.nodes) (potential_at potentials v)
  bounded_at v b = elim (cases_lt (distance_at distances v) (distance_at distances node)) [
    | inl near ↦
        let s = (nearer_settled v b near).0 in
        let above = search.is_tree.near v node s search.node_settled in
        let below = search.is_tree.near node v search.node_settled s in
        let short = tree_short state source tree distances settled search.is_tree in
        let some = search.is_tree.some in
        let at = calm node search.node_in lacks in
        let lower = updated_at v b in
        record { low = omega (arith, ints, near, above, below, short, some, at.low, at.high, lower); high = omega (arith, ints, near, above, below, short, some, at.low, at.high, lower) }
    | inr far ↦
        let was = state.kept.bounded v b in
        let lower = updated_at v b in
        record { low = omega (arith, ints, was.low, lower, far); high = omega (arith, ints, was.high, lower, far) }
  ]

  pub IsState-updated : IsState state.network.now state.flow.items state.excess.items potentials
  IsState-updated = record {
    flow_long = state.kept.flow_long;
    excess_long = state.kept.excess_long;
    potentials_long = updated.long ∙ state.kept.potentials_long;
    floors = state.kept.floors;
    rooms = state.kept.rooms;
    exact = state.kept.exact;
    optimal = AreOptimal-updated;
    bounded = bounded_at;
  }

  pub AreCalm-updated : AreCalm state.network.now state.excess.items potentials
  AreCalm-updated v b lack = elim (cases_lt (distance_at distances v) (distance_at distances node)) [
    | inl near ↦
        let s = nearer_settled v b near in
        absurd (omega (arith, ints, lack, search.calm v s.0 s.1))
    | inr far ↦
        let was = calm v b lack in
        let lower = updated_at v b in
        record { low = omega (arith, ints, was.low, lower, far); high = omega (arith, ints, was.high, lower, far) }
  ]

  pub IsPath-updated : (amount : ℕ) (updated_state : State) → updated_state.network.now ≡ state.network.now → updated_state.flow.items ≡ state.flow.items → updated_state.potentials.items ≡ potentials → amount ≤ (reach_at tree (length tree - 1)).width → IsPath updated_state tree amount
  IsPath-updated amount updated_state same_network same_flow same_potentials wide =
      let is_tree = search.is_tree in
      record {
        some = is_tree.some;
        wide = wide;
        froms = λ i above b. (is_tree.reaches i above b).from;
        arcs = λ i above b. rw same_network (is_tree.reaches i above b).arc;
        tight = λ i above b.
            let r = is_tree.reaches i above b in
            let after = step_after (reach_at tree i).step.arc (reach_at tree i).step.forward r.arc in
            let at_start = ap (distance_at distances) r.starts in
            let at_end = ap (distance_at distances) r.ends in
            let near_start = search.nearer (reach_at tree (reach_at tree i).from).node (is_tree.are_settled (reach_at tree i).from (omega (arith, r.from))) in
            let near_end = search.nearer (reach_at tree i).node (is_tree.are_settled i b) in
            let distance = r.distance in
            rw (same_network, same_potentials) (omega (arith, ints, after, at_start, at_end, near_start, near_end, distance));
        starts = λ i above b. rw same_network (is_tree.reaches i above b).starts;
        ends = λ i above b. rw same_network (is_tree.reaches i above b).ends;
        left = λ i above b. rw (same_network, same_flow) (is_tree.reaches i above b).left;
        narrow = λ i above b. (is_tree.reaches i above b).narrow;
        apart = is_tree.apart;
      }

-- what is updated on the tree is updated everywhere, since no other node is nearer than the last one
pub AreUpdated-from_tree : (state : State) (source node : ℕ) (tree reaches : List Reach) (distances : List ℕ) (settled : List Bool) (waiting : List (Reverse ℕ × ℕ))
    → IsSearchOf state source node tree reaches distances settled waiting → length state.potentials.items ≡ state.network.now.nodes → (potentials : List ℤ) → length potentials ≡ length state.potentials.items
    → ((i : ℕ) → i < length tree → potential_at potentials (reach_at tree i).node ≡ potential_at state.potentials.items (reach_at tree i).node -ℤ pos (distance_at distances node - distance_at distances (reach_at tree i).node))
    → ((v : ℕ) → ((i : ℕ) → i < length tree → (reach_at tree i).node ≢ v) → potential_at potentials v ≡ potential_at state.potentials.items v)
    → AreUpdated state.potentials.items potentials distances (distance_at distances node)
AreUpdated-from_tree state source node tree reaches distances settled waiting search potentials_long potentials long updated rest = record {
  long = long;
  each = λ v b. elim (cases_Bool (is_settled settled v)) [
    | inl s ↦
        let place = search.is_tree.places v s in
        subst (λ x. potential_at potentials x ≡ potential_at state.potentials.items x -ℤ pos (distance_at distances node - distance_at distances x)) place.2 (updated place.0 place.1)
    | inr uns ↦
        let far = search.further v (omega (arith, b, potentials_long)) uns in
        let same = rest v (λ i i_in. settled_apart settled (reach_at tree i).node v (search.is_tree.are_settled i i_in) uns) in
        omega (arith, ints, far, same)
  ];
}
