-- The search as a distance decreases, and as a node is settled.
use Rattle.std.proofs.Common.{◌≡◌, ◌≢◌, ℕ, ◌<◌, ◌≤◌, ◌⊎◌, Bool, true, false, List, length, get_or-set_same, get_or-set_other, refl, ◌∙◌, arith, inl, inr}
use Rattle.std.specs.Prelude.{pos, ◌≤ℤ◌, slice_set, slice_index}
use Rattle.std.specs.declared.cmp.Reverse.{Reverse}
use Rattle.std.proofs.lemmas.Int.{ints}
use Rattle.std.proofs.lemmas.Bool.{cases_eq, both_ways}
use Rattle.std.proofs.lemmas.List.{length-set}
use Rattle.bounded_network.specs.Network.{IsArc, arc_at}
use Rattle.bounded_network.specs.declared.network.Arc.{Arc}
use Rattle.flow_solver.specs.declared.state.State.{State}
use Rattle.flow_solver.specs.declared.search.Reach.{Reach}
use Rattle.flow_solver.specs.Queue.{Waits}
use Rattle.residual_arcs.specs.Step.{end_of, step_cost, left_on}
use Rattle.flow_solver.specs.Step.{step_reduced}
use Rattle.flow_solver.specs.State.{IsWithin, most_cost}
use Rattle.flow_solver.specs.Search.{unreached, distance_at, reach_at, is_settled, IsReach, IsRelaxedFrom, IsTree, IsSearchOf}

-- a step with room has no negative reduced cost
pub step_not_negative : (state : State) → (a : ℕ) (forward : Bool) → a < length state.network.now.arcs → 0 < left_on (arc_at state.network.now a) (slice_index state.flow.items a) forward → pos 0 ≤ℤ step_reduced (arc_at state.network.now a) forward state.potentials.items
step_not_negative state a true a_in room = state.kept.optimal.may_rise a a_in (omega arith)
step_not_negative state a false a_in room =
    let h = state.kept.optimal.may_fall a a_in (omega arith) in
    omega (arith, ints, h)

-- a step costs no more than the greatest cost
pub step_cost_within : (nodes : ℕ) (arc : Arc) (forward : Bool) → IsArc nodes arc → IsWithin most_cost (step_cost arc forward)
step_cost_within nodes arc true good = record { low = omega (arith, ints, good.cost_low); high = omega (arith, ints, good.cost_high) }
step_cost_within nodes arc false good = record { low = omega (arith, ints, good.cost_high); high = omega (arith, ints, good.cost_low) }

-- one distance is lower, and no other changed
pub record IsLowered (old new : List ℕ) (w d : ℕ) : Type 0 where
  pub long : length new ≡ length old
  pub at : distance_at new w ≡ d
  pub others : (v : ℕ) → v ≢ w → distance_at new v ≡ distance_at old v
  pub lower : d < distance_at old w

pub IsLowered-le : (old new : List ℕ) (w d : ℕ) → IsLowered old new w d → (v : ℕ) → distance_at new v ≤ distance_at old v
IsLowered-le old new w d lowered v = elim (cases_eq v w) [
  | inl e ↦ rw (e, lowered.at) (omega (arith, lowered.lower))
  | inr ne ↦ rw (lowered.others v ne) (omega arith)
]

pub IsLowered-set : (old : List ℕ) (w d : ℕ) → w < length old → d < distance_at old w → IsLowered old (slice_set old w d) w d
IsLowered-set old w d w_in lower = record {
  long = length-set old w d;
  at = get_or-set_same old w d 0 w_in;
  others = λ v ne. rw get_or-set_other refl;
  lower = lower;
}

-- a settled node is no unsettled one
pub settled_apart : (settled : List Bool) (u w : ℕ) → is_settled settled u ≡ true → is_settled settled w ≡ false → u ≢ w
settled_apart settled u w here not_there same = both_ways (is_settled settled w) not_there (rw same at here)

module _ (state : State) (old new : List ℕ) (w d : ℕ) (lowered : IsLowered old new w d) where
  pub IsRelaxedFrom-lower : (v : ℕ) → v ≢ w → IsRelaxedFrom state old v → IsRelaxedFrom state new v
  IsRelaxedFrom-lower v ne relaxed a forward a_in starts room =
      let less = IsLowered-le old new w d lowered (end_of (arc_at state.network.now a) forward) in
      rw (lowered.others v ne) (omega (arith, ints, less, relaxed a forward a_in starts room))

  pub IsReach-lower : (tree : List Reach) (limit : ℕ) (reach : Reach) (v : ℕ) → v ≢ w → (reach_at tree reach.from).node ≢ w → IsReach state tree old limit reach v → IsReach state tree new limit reach v
  IsReach-lower tree limit reach v ne parent_ne reaches = record {
    node = reaches.node;
    from = reaches.from;
    arc = reaches.arc;
    starts = reaches.starts;
    ends = reaches.ends;
    distance = rw (lowered.others v ne, lowered.others (reach_at tree reach.from).node parent_ne) reaches.distance;
    some = reaches.some;
    left = reaches.left;
    narrow = reaches.narrow;
  }

  pub IsTree-lower : (source : ℕ) (tree : List Reach) (settled : List Bool) → is_settled settled w ≡ false → IsTree state source tree old settled → IsTree state source tree new settled
  IsTree-lower source tree settled unsettled is_tree =
      let far : (i : ℕ) → i < length tree → (reach_at tree i).node ≢ w = λ i b. settled_apart settled (reach_at tree i).node w (is_tree.are_settled i b) unsettled in
      let root_far : source ≢ w = rw is_tree.root at (far 0 is_tree.some) in
      record {
        settled_long = is_tree.settled_long;
        counted = is_tree.counted;
        some = is_tree.some;
        root = is_tree.root;
        root_distance = rw (lowered.others source root_far) is_tree.root_distance;
        root_width = is_tree.root_width;
        root_some = is_tree.root_some;
        nodes = is_tree.nodes;
        are_settled = is_tree.are_settled;
        places = is_tree.places;
        separate = is_tree.separate;
        reaches = λ i some b.
            let r = is_tree.reaches i some b in
            IsReach-lower tree i (reach_at tree i) (reach_at tree i).node (far i b) (far (reach_at tree i).from (omega (arith, r.from))) r;
        apart = is_tree.apart;
        near = λ u v su sv. rw (lowered.others u (settled_apart settled u w su unsettled), lowered.others v (settled_apart settled v w sv unsettled)) (is_tree.near u v su sv);
      }

-- the search once a distance is lower
pub IsSearchOf-lower : (state : State) (source node : ℕ) (tree reaches : List Reach) (distances : List ℕ) (settled : List Bool) (waiting : List (Reverse ℕ × ℕ))
    → IsSearchOf state source node tree reaches distances settled waiting
    → (w d : ℕ) (distances' : List ℕ) (reaches' : List Reach) (waiting' : List (Reverse ℕ × ℕ))
    → w < state.network.now.nodes → d < unreached → is_settled settled w ≡ false → distance_at distances node ≤ d → IsLowered distances distances' w d
    → length reaches' ≡ length reaches → IsReach state tree distances' (length tree) (reach_at reaches' w) w → ((v : ℕ) → v ≢ w → reach_at reaches' v ≡ reach_at reaches v)
    → Waits waiting' d w → ((e v : ℕ) → Waits waiting e v → Waits waiting' e v) → ((e v : ℕ) → Waits waiting' e v → Waits waiting e v ⊎ ((e ≡ d) × (v ≡ w)))
    → IsSearchOf state source node tree reaches' distances' settled waiting'
IsSearchOf-lower state source node tree reaches distances settled waiting search w d distances' reaches' waiting' w_in d_reached unsettled far lowered reaches_long reached reaches_same added kept only =
    let node_far : node ≢ w = settled_apart settled node w search.node_settled unsettled in
    let node_same : distance_at distances' node ≡ distance_at distances node = lowered.others node node_far in
    let tree_far : (i : ℕ) → i < length tree → (reach_at tree i).node ≢ w = λ i b. settled_apart settled (reach_at tree i).node w (search.is_tree.are_settled i b) unsettled in
    record {
      is_tree = IsTree-lower state distances distances' w d lowered source tree settled unsettled search.is_tree;
      distances_long = lowered.long ∙ search.distances_long;
      reaches_long = reaches_long ∙ search.reaches_long;
      node_in = search.node_in;
      node_settled = search.node_settled;
      node_last = search.node_last;
      candidates = λ v v_in uns less. elim (cases_eq v w) [
        | inl e ↦ rw e reached
        | inr ne ↦
            let r = search.candidates v v_in uns (rw (lowered.others v ne) at less) in
            rw (reaches_same v ne) (IsReach-lower state distances distances' w d lowered tree (length tree) (reach_at reaches v) v ne (tree_far (reach_at reaches v).from r.from) r)
      ];
      nearer = λ v s. rw (node_same, lowered.others v (settled_apart settled v w s unsettled)) (search.nearer v s);
      further = λ v v_in uns. rw node_same (elim (cases_eq v w) [
        | inl e ↦ rw (e, lowered.at) far
        | inr ne ↦ rw (lowered.others v ne) (search.further v v_in uns)
      ]);
      queued = λ e v waits. elim (only e v waits) [
        | inl before ↦ let q = search.queued e v before in (q.0, omega (arith, q.1, IsLowered-le distances distances' w d lowered v), q.2)
        | inr new ↦ (rw new.1 w_in, rw (new.0, new.1, lowered.at) (omega arith), rw new.0 d_reached)
      ];
      waits = λ v v_in uns less. elim (cases_eq v w) [
        | inl e ↦ rw (e, lowered.at) added
        | inr ne ↦ rw (lowered.others v ne) (kept (distance_at distances v) v (search.waits v v_in uns (rw (lowered.others v ne) at less)))
      ];
      relaxed = λ v s ne. IsRelaxedFrom-lower state distances distances' w d lowered v (settled_apart settled v w s unsettled) (search.relaxed v s ne);
      calm = search.calm;
    }
