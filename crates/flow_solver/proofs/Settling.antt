-- The search as its nearest node is settled.
use Rattle.std.proofs.Common.{◌≡◌, ◌≢◌, ℕ, ◌+◌, ◌-◌, ◌*◌, ◌<◌, ◌≤◌, ◌⊎◌, Bool, true, false, List, [], ◌∷◌, ◌++◌, length, get_or-set_same, get_or-set_other, refl, sym, ap, subst, ◌∙◌, arith, inl, inr}
use Rattle.std.specs.Prelude.{ℤ, pos, ◌+ℤ◌, ◌-ℤ◌, ◌≤ℤ◌, slice_set}
use Rattle.std.specs.declared.cmp.Reverse.{Reverse}
use Rattle.std.proofs.lemmas.Int.{ints}
use Rattle.std.proofs.lemmas.Bool.{cases_eq, cases_lt, both_ways}
use Rattle.std.proofs.lemmas.List.{length-set, get_or_push, get_or_append_left, length_push}
use Rattle.match_rules.specs.Sums.{count_below, when}
use Rattle.bounded_network.specs.Network.{arc_at, potential_at}
use Rattle.bounded_network.proofs.Sums.{count_below-at_most}
use Rattle.flow_solver.specs.declared.state.State.{State}
use Rattle.flow_solver.specs.declared.search.Reach.{Reach}
use Rattle.flow_solver.specs.Queue.{Waits}
use Rattle.residual_arcs.specs.Step.{start_of, end_of, step_cost}
use Rattle.flow_solver.specs.Step.{step_reduced}
use Rattle.flow_solver.specs.State.{excess_at, most_cost}
use Rattle.flow_solver.specs.Search.{unreached, distance_at, reach_at, no_reach, is_settled, height_at, IsReach, IsRelaxedFrom, IsTree, IsSearchOf}
use Rattle.residual_arcs.proofs.Amounts.{count_below-change, when_at_most}
use Rattle.residual_arcs.proofs.Steps.{end_among}
use Rattle.flow_solver.proofs.Searches.{step_cost_within, settled_apart}

-- the tree has no more nodes than the network
pub tree_short : (state : State) (source : ℕ) (tree : List Reach) (distances : List ℕ) (settled : List Bool) → IsTree state source tree distances settled → length tree ≤ state.network.now.nodes
tree_short state source tree distances settled is_tree =
    let bound = count_below-at_most state.network.now.nodes (λ v. when (is_settled settled v) 1) 1 (λ v b. when_at_most (is_settled settled v) 1) in
    omega (arith, bound, is_tree.counted)

module _ (tree : List Reach) (r : Reach) where
  pub grown-old : (i : ℕ) → i < length tree → reach_at (tree ++ r ∷ []) i ≡ reach_at tree i
  grown-old i b = get_or_append_left tree (r ∷ []) no_reach i b

  pub grown-new : reach_at (tree ++ r ∷ []) (length tree) ≡ r
  grown-new = get_or_push tree r no_reach (length tree) refl

  pub IsReach-grown : (state : State) (distances : List ℕ) (limit : ℕ) (reach : Reach) (v : ℕ) → reach.from < length tree → IsReach state tree distances limit reach v → IsReach state (tree ++ r ∷ []) distances limit reach v
  IsReach-grown state distances limit reach v b reached = record {
    node = reached.node;
    from = reached.from;
    arc = reached.arc;
    starts = rw (grown-old reach.from b) reached.starts;
    ends = reached.ends;
    distance = rw (grown-old reach.from b) reached.distance;
    some = reached.some;
    left = reached.left;
    narrow = rw (grown-old reach.from b) reached.narrow;
  }

  -- each place of the grown tree is an old place or the new one
  pub grown-cases : (i : ℕ) → i < length (tree ++ r ∷ []) → ((i < length tree) × (reach_at (tree ++ r ∷ []) i ≡ reach_at tree i)) ⊎ ((i ≡ length tree) × (reach_at (tree ++ r ∷ []) i ≡ r))
  grown-cases i b = elim (cases_lt i (length tree)) [
    | inl below ↦ inl (below, grown-old i below)
    | inr above ↦ let e : i ≡ length tree = omega (arith, length_push tree r) in inr (e, rw e grown-new)
  ]

-- a more distant limit
IsReach-wider : (state : State) (tree : List Reach) (distances : List ℕ) (limit more : ℕ) (reach : Reach) (v : ℕ) → limit ≤ more → IsReach state tree distances limit reach v → IsReach state tree distances more reach v
IsReach-wider state tree distances limit more reach v le reached = record {
  node = reached.node;
  from = omega (arith, reached.from);
  arc = reached.arc;
  starts = reached.starts;
  ends = reached.ends;
  distance = reached.distance;
  some = reached.some;
  left = reached.left;
  narrow = reached.narrow;
}

module _ (settled : List Bool) (v : ℕ) (v_in : v < length settled) where
  pub marked-here : is_settled (slice_set settled v true) v ≡ true
  marked-here = get_or-set_same settled v true false v_in

  pub marked-other : (u : ℕ) → u ≢ v → is_settled (slice_set settled v true) u ≡ is_settled settled u
  marked-other u ne = rw get_or-set_other refl

  pub marked-cases : (u : ℕ) → is_settled (slice_set settled v true) u ≡ true → (u ≡ v) ⊎ ((u ≢ v) × (is_settled settled u ≡ true))
  marked-cases u s = elim (cases_eq u v) [ inl e ↦ inl e | inr ne ↦ inr (ne, sym (marked-other u ne) ∙ s) ]

  pub unmarked : (u : ℕ) → is_settled (slice_set settled v true) u ≡ false → (u ≢ v) × (is_settled settled u ≡ false)
  unmarked u s = elim (cases_eq u v) [
    | inl e ↦ absurd (both_ways (is_settled (slice_set settled v true) u) s (rw e marked-here))
    | inr ne ↦ (ne, sym (marked-other u ne) ∙ s)
  ]

-- the heights at the two ends of a step of the tree differ by its cost
pub height-step : (state : State) (tree : List Reach) (distances : List ℕ) (limit : ℕ) (reach : Reach) (v : ℕ) → IsReach state tree distances limit reach v
    → height_at state distances v ≡ height_at state distances (reach_at tree reach.from).node +ℤ step_cost (arc_at state.network.now reach.step.arc) reach.step.forward
height-step state tree distances limit reach v reached =
    let p : ℕ = (reach_at tree reach.from).node in
    let cost : ℤ = step_cost (arc_at state.network.now reach.step.arc) reach.step.forward in
    let potentials : List ℤ = state.potentials.items in
    let e : step_reduced (arc_at state.network.now reach.step.arc) reach.step.forward potentials ≡ (cost +ℤ potential_at potentials p) -ℤ potential_at potentials v =
    ap (λ x. (cost +ℤ potential_at potentials x) -ℤ potential_at potentials (end_of (arc_at state.network.now reach.step.arc) reach.step.forward)) reached.starts
    ∙ ap (λ x. (cost +ℤ potential_at potentials p) -ℤ potential_at potentials x) reached.ends in
    omega (arith, ints, e, reached.distance)

module _ (state : State) (source : ℕ) (tree : List Reach) (distances : List ℕ) (settled : List Bool) (is_tree : IsTree state source tree distances settled)
    (r : Reach) (v : ℕ) (v_in : v < state.network.now.nodes) (unsettled : is_settled settled v ≡ false) (reached : IsReach state tree distances (length tree) r v) where
  in_settled : v < length settled
  in_settled = omega (arith, is_tree.settled_long)

  counted_more : count_below state.network.now.nodes (λ u. when (is_settled (slice_set settled v true) u) 1) ≡ length (tree ++ r ∷ [])
  counted_more =
      let f : ℕ → ℕ = λ u. when (is_settled settled u) 1 in
      let g : ℕ → ℕ = λ u. when (is_settled (slice_set settled v true) u) 1 in
      let change = count_below-change state.network.now.nodes f g v v_in (λ u b ne. ap (λ t. when t 1) (sym (marked-other settled v in_settled u ne))) in
      let before : f v ≡ 0 = ap (λ t. when t 1) unsettled in
      let after : g v ≡ 1 = ap (λ t. when t 1) (marked-here settled v in_settled) in
      omega (arith, change, before, after, is_tree.counted, length_push tree r)

  -- the new arc is none of the tree's
  arc_new : (i : ℕ) → 0 < i → i < length tree → (reach_at tree i).step.arc ≢ r.step.arc
  arc_new i some b same =
      let old = is_tree.reaches i some b in
      let starts_settled : is_settled settled (start_of (arc_at state.network.now (reach_at tree i).step.arc) (reach_at tree i).step.forward) ≡ true =
      rw old.starts (is_tree.are_settled (reach_at tree i).from (omega (arith, old.from))) in
      let ends_settled : is_settled settled (end_of (arc_at state.network.now (reach_at tree i).step.arc) (reach_at tree i).step.forward) ≡ true =
      rw old.ends (is_tree.are_settled i b) in
      let here : end_of (arc_at state.network.now (reach_at tree i).step.arc) r.step.forward ≡ v = ap (λ a. end_of (arc_at state.network.now a) r.step.forward) same ∙ reached.ends in
      elim (end_among (arc_at state.network.now (reach_at tree i).step.arc) r.step.forward (reach_at tree i).step.forward) [
        | inl at_start ↦ both_ways (is_settled settled v) unsettled (ap (is_settled settled) (sym here ∙ at_start) ∙ starts_settled)
        | inr at_end ↦ both_ways (is_settled settled v) unsettled (ap (is_settled settled) (sym here ∙ at_end) ∙ ends_settled)
      ]

  -- the new node is near each settled one
  near_new : (u : ℕ) → is_settled settled u ≡ true → (height_at state distances u ≤ℤ (height_at state distances v +ℤ pos (most_cost * length tree))) × (height_at state distances v ≤ℤ (height_at state distances u +ℤ pos (most_cost * length tree)))
  near_new u s =
      let p : ℕ = (reach_at tree r.from).node in
      let p_settled = is_tree.are_settled r.from reached.from in
      let step = height-step state tree distances (length tree) r v reached in
      let cost = step_cost_within state.network.now.nodes (arc_at state.network.now r.step.arc) r.step.forward (state.good.each r.step.arc reached.arc) in
      let one = is_tree.near u p s p_settled in
      let two = is_tree.near p u p_settled s in
      let some = is_tree.some in
      (omega (arith, ints, step, cost.low, cost.high, one), omega (arith, ints, step, cost.low, cost.high, two))

  pub IsTree-grown : IsTree state source (tree ++ r ∷ []) distances (slice_set settled v true)
  IsTree-grown =
      let tree' : List Reach = tree ++ r ∷ [] in
      let long : length tree' ≡ length tree + 1 = length_push tree r in
      record {
        settled_long = length-set settled v true ∙ is_tree.settled_long;
        counted = counted_more;
        some = omega (arith, long);
        root = rw (grown-old tree r 0 is_tree.some) is_tree.root;
        root_distance = is_tree.root_distance;
        root_width = rw (grown-old tree r 0 is_tree.some) is_tree.root_width;
        root_some = rw (grown-old tree r 0 is_tree.some) is_tree.root_some;
        nodes = λ i b. elim (grown-cases tree r i b) [
          | inl old ↦ rw old.1 (is_tree.nodes i old.0)
          | inr new ↦ rw (new.1, reached.node) v_in
        ];
        are_settled = λ i b. elim (grown-cases tree r i b) [
          | inl old ↦ rw (old.1, marked-other settled v in_settled (reach_at tree i).node (settled_apart settled (reach_at tree i).node v (is_tree.are_settled i old.0) unsettled)) (is_tree.are_settled i old.0)
          | inr new ↦ rw (new.1, reached.node) (marked-here settled v in_settled)
        ];
        places = λ u s. elim (marked-cases settled v in_settled u s) [
          | inl e ↦ let at : (reach_at tree' (length tree)).node ≡ u = rw (grown-new tree r, reached.node) (sym e) in (length tree, omega (arith, long), at)
          | inr old ↦
              let was = is_tree.places u old.1 in
              let at : (reach_at tree' was.0).node ≡ u = rw (grown-old tree r was.0 was.1) was.2 in
              (was.0, omega (arith, long, was.1), at)
        ];
        separate = λ i j less b. elim (grown-cases tree r j b) [
          | inl old ↦ rw (old.1, grown-old tree r i (omega arith)) (is_tree.separate i j less old.0)
          | inr new ↦ rw (new.1, grown-old tree r i (omega arith), reached.node) (settled_apart settled (reach_at tree i).node v (is_tree.are_settled i (omega arith)) unsettled)
        ];
        reaches = λ i some b. elim (grown-cases tree r i b) [
          | inl old ↦
              let was = is_tree.reaches i some old.0 in
              rw old.1 (IsReach-grown tree r state distances i (reach_at tree i) (reach_at tree i).node (omega (arith, was.from)) was)
          | inr new ↦
              let at_node : IsReach state tree' distances (length tree) r r.node =
              subst (λ x. IsReach state tree' distances (length tree) r x) (sym reached.node) (IsReach-grown tree r state distances (length tree) r v reached.from reached) in
              rw (new.1, new.0) at_node
        ];
        apart = λ i j some less b. elim (grown-cases tree r j b) [
          | inl old ↦ rw (old.1, grown-old tree r i (omega arith)) (is_tree.apart i j some less old.0)
          | inr new ↦ rw (new.1, grown-old tree r i (omega arith)) (arc_new i some (omega arith))
        ];
        near = λ u w su sw.
            let n : length tree' - 1 ≡ length tree = omega (arith, long) in
            rw n (elim (marked-cases settled v in_settled u su) [
              | inl u_new ↦ elim (marked-cases settled v in_settled w sw) [
                | inl w_new ↦ rw (u_new, w_new) (omega (arith, ints))
                | inr w_old ↦ rw u_new (near_new w w_old.1).1
              ]
              | inr u_old ↦ elim (marked-cases settled v in_settled w sw) [
                | inl w_new ↦ rw w_new (near_new u u_old.1).0
                | inr w_old ↦ let h = is_tree.near u w u_old.1 w_old.1 in omega (arith, ints, h)
              ]
            ]);
      }

-- the search once its nearest node is settled
pub IsSearchOf-settle : (state : State) (source node : ℕ) (tree reaches : List Reach) (distances : List ℕ) (settled : List Bool) (waiting : List (Reverse ℕ × ℕ))
    → IsSearchOf state source node tree reaches distances settled waiting → IsRelaxedFrom state distances node → pos 0 ≤ℤ excess_at state.excess.items node
    → (v : ℕ) (waiting' : List (Reverse ℕ × ℕ)) → v < state.network.now.nodes → is_settled settled v ≡ false → distance_at distances v < unreached
    → ((u : ℕ) → u < state.network.now.nodes → is_settled settled u ≡ false → distance_at distances v ≤ distance_at distances u)
    → ((d u : ℕ) → Waits waiting' d u → Waits waiting d u)
    → ((d u : ℕ) → Waits waiting d u → is_settled settled u ≡ false → u ≢ v → Waits waiting' d u)
    → IsSearchOf state source v (tree ++ reach_at reaches v ∷ []) reaches distances (slice_set settled v true) waiting'
IsSearchOf-settle state source node tree reaches distances settled waiting search done calm v waiting' v_in unsettled less nearest only kept =
    let is_tree = search.is_tree in
    let r : Reach = reach_at reaches v in
    let reached = search.candidates v v_in unsettled less in
    let in_settled : v < length settled = omega (arith, is_tree.settled_long) in
    let long : length (tree ++ r ∷ []) ≡ length tree + 1 = length_push tree r in
    let last : length (tree ++ r ∷ []) - 1 ≡ length tree = omega (arith, long) in
    record {
      is_tree = IsTree-grown state source tree distances settled is_tree r v v_in unsettled reached;
      distances_long = search.distances_long;
      reaches_long = search.reaches_long;
      node_in = v_in;
      node_settled = marked-here settled v in_settled;
      node_last = rw (last, grown-new tree r) reached.node;
      candidates = λ u u_in uns reached_u.
          let was = search.candidates u u_in (unmarked settled v in_settled u uns).1 reached_u in
          IsReach-grown tree r state distances (length (tree ++ r ∷ [])) (reach_at reaches u) u was.from (IsReach-wider state tree distances (length tree) (length (tree ++ r ∷ [])) (reach_at reaches u) u (omega (arith, long)) was);
      nearer = λ u s. elim (marked-cases settled v in_settled u s) [
        | inl e ↦ rw e (omega arith)
        | inr old ↦ omega (arith, search.nearer u old.1, search.further v v_in unsettled)
      ];
      further = λ u u_in uns. nearest u u_in (unmarked settled v in_settled u uns).1;
      queued = λ d u waits. search.queued d u (only d u waits);
      waits = λ u u_in uns reached_u. let old = unmarked settled v in_settled u uns in kept (distance_at distances u) u (search.waits u u_in old.1 reached_u) old.1 old.0;
      relaxed = λ u s ne. elim (marked-cases settled v in_settled u s) [
        | inl e ↦ absurd (ne e)
        | inr old ↦ elim (cases_eq u node) [ inl e ↦ rw e done | inr other ↦ search.relaxed u old.1 other ]
      ];
      calm = λ u s ne. elim (marked-cases settled v in_settled u s) [
        | inl e ↦ absurd (ne e)
        | inr old ↦ elim (cases_eq u node) [ inl e ↦ rw e calm | inr other ↦ search.calm u old.1 other ]
      ];
    }
