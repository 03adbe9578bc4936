-- The search as a step is relaxed.
use Rattle.std.proofs.Common.{◌≡◌, ◌≢◌, ℕ, ◌+◌, ◌-◌, ◌<◌, ◌≤◌, ◌⊎◌, Bool, false, List, length, get_or-set_same, get_or-set_other, sym, ap, subst, ◌∙◌, arith, inl, inr}
use Rattle.std.specs.Prelude.{pos, ◌+ℤ◌, slice_index, slice_set}
use Rattle.std.specs.declared.cmp.Reverse.{Reverse}
use Rattle.std.proofs.lemmas.Int.{ints}
use Rattle.std.proofs.lemmas.Bool.{cases_Bool, cases_eq}
use Rattle.std.proofs.lemmas.List.{length-set}
use Rattle.bounded_network.specs.Network.{arc_at}
use Rattle.flow_solver.specs.declared.state.State.{State}
use Rattle.residual_arcs.specs.declared.step.Step.{Step}
use Rattle.flow_solver.specs.declared.search.Reach.{Reach}
use Rattle.flow_solver.specs.declared.search.Search.{Search}
use Rattle.flow_solver.specs.Queue.{Waits}
use Rattle.residual_arcs.specs.Step.{start_of, end_of, left_on}
use Rattle.flow_solver.specs.Step.{step_reduced}
use Rattle.residual_arcs.specs.declared.links.Link.{Link}
use Rattle.residual_arcs.specs.declared.links.Links.{Links}
use Rattle.residual_arcs.specs.Links.{AreLinks, link_at}
use Rattle.residual_arcs.proofs.Steps.{choice-from_left}
use Rattle.flow_solver.specs.Search.{unreached, distance_at, reach_at, no_reach, is_settled, IsReach, IsSearchOf, IsRelaxed, IsRelaxedFrom, SameTree}
use Rattle.flow_solver.proofs.Searches.{step_not_negative, IsLowered, IsLowered-set, IsSearchOf-lower, settled_apart}
use Rattle.residual_arcs.proofs.Steps.{end_in}
use Rattle.flow_solver.proofs.Bounds.{over_small}

module _ (state : State) (source node : ℕ) (tree reaches : List Reach) (distances : List ℕ) (settled : List Bool) (waiting : List (Reverse ℕ × ℕ))
    (search : IsSearchOf state source node tree reaches distances settled waiting)
    (step : Step) (a_in : step.arc < length state.network.now.arcs) (starts : start_of (arc_at state.network.now step.arc) step.forward ≡ node)
    (room : 0 < left_on (arc_at state.network.now step.arc) (slice_index state.flow.items step.arc) step.forward)
    (to d : ℕ) (to_is : to ≡ end_of (arc_at state.network.now step.arc) step.forward)
    (d_is : pos d ≡ pos (distance_at distances node) +ℤ step_reduced (arc_at state.network.now step.arc) step.forward state.potentials.items)
    (lower : d < distance_at distances to) where
  pub to_in : to < state.network.now.nodes
  to_in = rw to_is (end_in state.network.now.nodes (arc_at state.network.now step.arc) step.forward (state.good.each step.arc a_in))

  pub d_far : distance_at distances node ≤ d
  d_far = let h = step_not_negative state step.arc step.forward a_in room in omega (arith, ints, h, d_is)

  pub to_unsettled : is_settled settled to ≡ false
  to_unsettled = elim (cases_Bool (is_settled settled to)) [
    | inl s ↦ absurd (omega (arith, search.nearer to s, d_far, lower))
    | inr u ↦ u
  ]

  pub to_lowered : IsLowered distances (slice_set distances to d) to d
  to_lowered = IsLowered-set distances to d (omega (arith, search.distances_long, to_in)) lower

  pub node_apart : node ≢ to
  node_apart = settled_apart settled node to search.node_settled to_unsettled

  pub to_reached : (reach : Reach) → reach.node ≡ to → reach.from ≡ length tree - 1 → reach.step ≡ step → 0 < reach.width
      → reach.width ≤ left_on (arc_at state.network.now step.arc) (slice_index state.flow.items step.arc) step.forward → reach.width ≤ (reach_at tree (length tree - 1)).width
      → IsReach state tree (slice_set distances to d) (length tree) reach to
  to_reached reach node_is from_is step_is some left narrow =
      let last : (reach_at tree reach.from).node ≡ node = ap (λ i. (reach_at tree i).node) from_is ∙ search.node_last in
      let dist_to : distance_at (slice_set distances to d) to ≡ d = to_lowered.at in
      let dist_from : distance_at (slice_set distances to d) (reach_at tree reach.from).node ≡ distance_at distances node =
      ap (distance_at (slice_set distances to d)) last ∙ to_lowered.others node node_apart in
      record {
        node = node_is;
        from = omega (arith, from_is, search.is_tree.some);
        arc = subst (λ (s : Step). s.arc < length state.network.now.arcs) (sym step_is) a_in;
        starts = subst (λ (s : Step). start_of (arc_at state.network.now s.arc) s.forward ≡ (reach_at tree reach.from).node) (sym step_is) (starts ∙ sym last);
        ends = subst (λ (s : Step). end_of (arc_at state.network.now s.arc) s.forward ≡ to) (sym step_is) (sym to_is);
        distance = subst (λ (s : Step). pos (distance_at (slice_set distances to d) to) ≡ pos (distance_at (slice_set distances to d) (reach_at tree reach.from).node) +ℤ step_reduced (arc_at state.network.now s.arc) s.forward state.potentials.items) (sym step_is)
            (rw (dist_to, dist_from) d_is);
        some = some;
        left = subst (λ (s : Step). reach.width ≤ left_on (arc_at state.network.now s.arc) (slice_index state.flow.items s.arc) s.forward) (sym step_is) left;
        narrow = subst (λ (i : ℕ). reach.width ≤ (reach_at tree i).width) (sym from_is) narrow;
      }

  pub IsSearchOf-relax : (reach : Reach) → reach.node ≡ to → reach.from ≡ length tree - 1 → reach.step ≡ step → 0 < reach.width
      → reach.width ≤ left_on (arc_at state.network.now step.arc) (slice_index state.flow.items step.arc) step.forward → reach.width ≤ (reach_at tree (length tree - 1)).width
      → (waiting' : List (Reverse ℕ × ℕ)) → Waits waiting' d to → ((e v : ℕ) → Waits waiting e v → Waits waiting' e v) → ((e v : ℕ) → Waits waiting' e v → Waits waiting e v ⊎ ((e ≡ d) × (v ≡ to)))
      → IsSearchOf state source node tree (slice_set reaches to reach) (slice_set distances to d) settled waiting'
  IsSearchOf-relax reach node_is from_is step_is some left narrow waiting' added stays only =
      let small = over_small state source node tree reaches distances settled waiting search step.arc step.forward a_in starts in
      let to_reached_at : d < unreached = omega (arith, ints, small, d_is) in
      let there : to < length reaches = omega (arith, search.reaches_long, to_in) in
      let at : reach_at (slice_set reaches to reach) to ≡ reach = get_or-set_same reaches to reach no_reach there in
      IsSearchOf-lower state source node tree reaches distances settled waiting search to d (slice_set distances to d) (slice_set reaches to reach) waiting'
      to_in to_reached_at to_unsettled d_far to_lowered (length-set reaches to reach)
      (subst (λ (r : Reach). IsReach state tree (slice_set distances to d) (length tree) r to) (sym at) (to_reached reach node_is from_is step_is some left narrow))
      (λ v ne. get_or-set_other reaches to v reach no_reach ne)
      added stays only

-- a relaxed step stays relaxed as distances update_tree, but not that of its start
pub IsRelaxed-lower : (state : State) (old new : List ℕ) (v a : ℕ) (forward : Bool) → ((u : ℕ) → distance_at new u ≤ distance_at old u) → distance_at new v ≡ distance_at old v
    → IsRelaxed state old v a forward → IsRelaxed state new v a forward
IsRelaxed-lower state old new v a forward less same relaxed starts room =
    let h = relaxed starts room in
    let l = less (end_of (arc_at state.network.now a) forward) in
    omega (arith, ints, h, l, same)

-- the links of the node from a first place on are relaxed, up to a place
abbrev pub AreRelaxedTo : State → List ℕ → ℕ → List Link → ℕ → ℕ → Type 0
AreRelaxedTo state distances v links first place =
    (i : ℕ) → first ≤ i → i < place → IsRelaxed state distances v (link_at links i).step.arc (link_at links i).step.forward

-- one link more
pub AreRelaxedTo-more : (state : State) (old new : List ℕ) (v : ℕ) (links : List Link) (first place : ℕ) → ((u : ℕ) → distance_at new u ≤ distance_at old u) → distance_at new v ≡ distance_at old v
    → IsRelaxed state new v (link_at links place).step.arc (link_at links place).step.forward → AreRelaxedTo state old v links first place → AreRelaxedTo state new v links first (place + 1)
AreRelaxedTo-more state old new v links first place less same here relaxed i from to = elim (cases_eq i place) [
  | inl e ↦ rw e here
  | inr ne ↦ IsRelaxed-lower state old new v (link_at links i).step.arc (link_at links i).step.forward less same (relaxed i from (omega arith))
]

-- once all links of the node are relaxed, so is every step: on a step that is no link nothing is left
pub IsRelaxedFrom-links : (state : State) (distances : List ℕ) (v : ℕ) (links : Links) → AreLinks state.network.now links
    → AreRelaxedTo state distances v links.all.items (slice_index links.starts.items v) (slice_index links.starts.items (v + 1)) → IsRelaxedFrom state distances v
IsRelaxedFrom-links state distances v links good relaxed a forward a_in starts room =
    let step : Step = record { arc = a; forward = forward } in
    let choice = choice-from_left (arc_at state.network.now a) (slice_index state.flow.items a) forward (state.kept.floors a a_in) (state.kept.rooms a a_in) room in
    let there = good.whole step a_in choice in
    let from : slice_index links.starts.items v ≤ there.0 = rw starts at there.1 in
    let to : there.0 < slice_index links.starts.items (v + 1) = rw starts at there.2 in
    subst (λ (s : Step). IsRelaxed state distances v s.arc s.forward) there.3 (relaxed there.0 from to) starts room

-- twice the same tree
pub SameTree-then : (a b c : Search) → SameTree a b → SameTree b c → SameTree a c
SameTree-then a b c one two = record {
  source = two.source ∙ one.source;
  node = two.node ∙ one.node;
  tree = two.tree ∙ one.tree;
  settled = two.settled ∙ one.settled;
}
