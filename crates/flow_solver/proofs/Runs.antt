-- The search as it begins and ends.
use Rattle.std.proofs.Common.{◌≡◌, ◌≢◌, ℕ, ◌<◌, ◌≤◌, ◌⊎◌, Bool, true, false, List, [], ◌∷◌, ◌++◌, length, get_or-set_same, get_or-set_other, refl, sym, ap, subst, ◌∙◌, arith, inl, inr}
use Rattle.std.specs.Prelude.{pos, ◌≤ℤ◌, slice_set, replicate}
use Rattle.std.specs.declared.cmp.Reverse.{Reverse}
use Rattle.std.proofs.lemmas.Int.{ints}
use Rattle.std.proofs.lemmas.Bool.{cases_Bool, cases_eq, cases_lt, both_ways}
use Rattle.std.proofs.lemmas.List.{length-set, length-replicate, get_or-replicate, get_or_past}
use Rattle.bounded_network.proofs.Sums.{count_below-at_most}
use Rattle.residual_arcs.proofs.Amounts.{count_below-change}
use Rattle.match_rules.specs.Sums.{count_below, when}
use Rattle.bounded_network.specs.Network.{arc_at}
use Rattle.flow_solver.specs.declared.state.State.{State}
use Rattle.flow_solver.specs.declared.search.Reach.{Reach}
use Rattle.flow_solver.specs.declared.search.Search.{Search}
use Rattle.flow_solver.specs.Queue.{Waits}
use Rattle.residual_arcs.specs.Step.{start_of, end_of}
use Rattle.flow_solver.specs.State.{excess_at}
use Rattle.flow_solver.specs.Search.{unreached, distance_at, reach_at, is_settled, IsSearchOf, IsRelaxed, IsRelaxedFrom, IsClosed, IsCleared, IsClearable, IsSearch}
use Rattle.flow_solver.proofs.Settling.{IsSearchOf-settle}
use Rattle.residual_arcs.proofs.Steps.{end_in}
use Rattle.flow_solver.proofs.Bounds.{over_settled_small}

-- nothing waits but settled nodes: the settled nodes are closed
pub IsClosed-from_search : (state : State) (source node : ℕ) (tree reaches : List Reach) (distances : List ℕ) (settled : List Bool) (waiting : List (Reverse ℕ × ℕ))
    → IsSearchOf state source node tree reaches distances settled waiting → IsRelaxedFrom state distances node → pos 0 ≤ℤ excess_at state.excess.items node
    → ((d v : ℕ) → Waits waiting d v → is_settled settled v ≡ true) → IsClosed state source settled
IsClosed-from_search state source node tree reaches distances settled waiting search done calm none =
    let is_tree = search.is_tree in
    record {
      long = is_tree.settled_long;
      source_settled = rw is_tree.root at (is_tree.are_settled 0 is_tree.some);
      calm = λ v s. elim (cases_eq v node) [ inl e ↦ rw e calm | inr ne ↦ search.calm v s ne ];
      closed = λ a forward a_in starts room.
          let u : ℕ = start_of (arc_at state.network.now a) forward in
          let w : ℕ = end_of (arc_at state.network.now a) forward in
          let relaxed : IsRelaxed state distances u a forward = elim (cases_eq u node) [
            | inl e ↦ subst (λ x. IsRelaxed state distances x a forward) (sym e) (done a forward a_in)
            | inr ne ↦ search.relaxed u starts ne a forward a_in
          ] in
          let near = relaxed refl room in
          let small = over_settled_small state source tree distances settled is_tree u starts a forward a_in refl in
          let reached : distance_at distances w < unreached = omega (arith, ints, near, small) in
          elim (cases_Bool (is_settled settled w)) [
            | inl s ↦ s
            | inr uns ↦ none (distance_at distances w) w (search.waits w (end_in state.network.now.nodes (arc_at state.network.now a) forward (state.good.each a a_in)) uns reached)
          ];
    }

-- the nearest node that waits is settled next
pub IsSearchOf-next : (state : State) (source node : ℕ) (tree reaches : List Reach) (distances : List ℕ) (settled : List Bool) (waiting waiting' : List (Reverse ℕ × ℕ))
    → IsSearchOf state source node tree reaches distances settled waiting → IsRelaxedFrom state distances node → pos 0 ≤ℤ excess_at state.excess.items node
    → (d v : ℕ) → Waits waiting d v → is_settled settled v ≡ false
    → ((e u : ℕ) → Waits waiting' e u → Waits waiting e u)
    → ((e u : ℕ) → Waits waiting e u → is_settled settled u ≡ false → Waits waiting' e u ⊎ ((e ≡ d) × (u ≡ v)))
    → ((e u : ℕ) → Waits waiting e u → is_settled settled u ≡ false → d ≤ e)
    → IsSearchOf state source v (tree ++ reach_at reaches v ∷ []) reaches distances (slice_set settled v true) waiting'
IsSearchOf-next state source node tree reaches distances settled waiting waiting' search done calm d v waited unsettled only kept nearest =
    let q = search.queued d v waited in
    IsSearchOf-settle state source node tree reaches distances settled waiting search done calm v waiting' q.0 unsettled (omega (arith, q.1, q.2))
    (λ u u_in uns. elim (cases_lt (distance_at distances u) unreached) [
      | inl reached ↦ let h = nearest (distance_at distances u) u (search.waits u u_in uns reached) uns in omega (arith, h, q.1)
      | inr far ↦ omega (arith, q.1, q.2)
    ])
    only
    (λ e u waits uns ne. elim (kept e u waits uns) [ inl stays ↦ stays | inr popped ↦ absurd (ne popped.1) ])

pub all_false : (n v : ℕ) → is_settled (replicate n false) v ≡ false
all_false n v = elim (cases_lt v n) [
  | inl below ↦ get_or-replicate n v false false below
  | inr above ↦ get_or_past (replicate n false) v false (rw (length-replicate n false) above)
]

-- one settled node counts as one
one_settled : (n : ℕ) (settled : List Bool) (source : ℕ) → source < n → is_settled settled source ≡ true → ((v : ℕ) → v ≢ source → is_settled settled v ≡ false) → count_below n (λ v. when (is_settled settled v) 1) ≡ 1
one_settled n settled source b here others =
    let f : ℕ → ℕ = λ v. 0 in
    let g : ℕ → ℕ = λ v. when (is_settled settled v) 1 in
    let change = count_below-change n f g source b (λ v v_in ne. sym (ap (λ t. when t 1) (others v ne))) in
    let none = count_below-at_most n f 0 (λ v v_in. omega arith) in
    let at : g source ≡ 1 = ap (λ t. when t 1) here in
    omega (arith, change, none, at)

-- a search that has settled its source alone, from a blank one
pub IsSearchOf-begin : (state : State) (source : ℕ) (root : Reach) (reaches : List Reach) (blank_distances : List ℕ) (blank_settled : List Bool) (waiting : List (Reverse ℕ × ℕ))
    → source < state.network.now.nodes → root.node ≡ source → 0 < root.width → pos root.width ≤ℤ excess_at state.excess.items source → length reaches ≡ state.network.now.nodes
    → length blank_distances ≡ state.network.now.nodes → length blank_settled ≡ state.network.now.nodes → ((v : ℕ) → v < state.network.now.nodes → IsCleared blank_distances blank_settled v)
    → ((d v : ℕ) → Waits waiting d v → ⊥)
    → IsSearchOf state source source (root ∷ []) reaches (slice_set blank_distances source 0) (slice_set blank_settled source true) waiting
IsSearchOf-begin state source root reaches blank_distances blank_settled waiting source_in root_is some within long distances_long settled_long cleared none =
    let n : ℕ = state.network.now.nodes in
    let distances : List ℕ = slice_set blank_distances source 0 in
    let settled : List Bool = slice_set blank_settled source true in
    let d_in : source < length blank_distances = omega (arith, distances_long, source_in) in
    let s_in : source < length blank_settled = omega (arith, settled_long, source_in) in
    let zero_at : distance_at distances source ≡ 0 = get_or-set_same blank_distances source 0 0 d_in in
    let far : (v : ℕ) → v < n → v ≢ source → unreached ≤ distance_at distances v = λ v v_in ne. rw (get_or-set_other blank_distances source v 0 0 ne) (cleared v v_in).far in
    let all_unsettled : (v : ℕ) → is_settled blank_settled v ≡ false = λ v. elim (cases_lt v n) [
      | inl below ↦ (cleared v below).unsettled
      | inr above ↦ get_or_past blank_settled v false (omega (arith, settled_long, above))
    ] in
    let here : is_settled settled source ≡ true = get_or-set_same blank_settled source true false s_in in
    let others : (v : ℕ) → v ≢ source → is_settled settled v ≡ false = λ v ne. get_or-set_other blank_settled source v true false ne ∙ all_unsettled v in
    let only : (v : ℕ) → is_settled settled v ≡ true → v ≡ source = λ v s. elim (cases_eq v source) [ inl e ↦ e | inr ne ↦ absurd (both_ways (is_settled settled v) (others v ne) s) ] in
    record {
      is_tree = record {
        settled_long = length-set blank_settled source true ∙ settled_long;
        counted = one_settled n settled source source_in here others;
        some = omega arith;
        root = root_is;
        root_distance = zero_at;
        root_width = within;
        root_some = some;
        nodes = λ i b. let e : i ≡ 0 = omega arith in rw (e, root_is) source_in;
        are_settled = λ i b. let e : i ≡ 0 = omega arith in rw (e, root_is) here;
        places = λ v s. (0, omega arith, root_is ∙ sym (only v s));
        separate = λ i j less b. absurd (omega arith);
        reaches = λ i above b. absurd (omega arith);
        apart = λ i j above less b. absurd (omega arith);
        near = λ u v su sv. rw (only u su, only v sv) (omega (arith, ints));
      };
      distances_long = length-set blank_distances source 0 ∙ distances_long;
      reaches_long = long;
      node_in = source_in;
      node_settled = here;
      node_last = root_is;
      candidates = λ v v_in uns reached. elim (cases_eq v source) [
        | inl e ↦ absurd (both_ways (is_settled settled v) uns (rw e here))
        | inr ne ↦ absurd (omega (arith, reached, far v v_in ne))
      ];
      nearer = λ v s. rw (only v s) (omega arith);
      further = λ v v_in uns. rw zero_at (omega arith);
      queued = λ d v waits. absurd (none d v waits);
      waits = λ v v_in uns reached. elim (cases_eq v source) [
        | inl e ↦ absurd (both_ways (is_settled settled v) uns (rw e here))
        | inr ne ↦ absurd (omega (arith, reached, far v v_in ne))
      ];
      relaxed = λ v s ne. absurd (ne (only v s));
      calm = λ v s ne. absurd (ne (only v s));
    }

-- after a search, every node that is reached stands in the tree or waits
pub IsClearable-from_search : (state : State) (search : Search) → IsSearch state search → IsClearable state.network.now search
IsClearable-from_search state search kept = record {
  distances_long = kept.distances_long;
  reaches_long = kept.reaches_long;
  settled_long = kept.is_tree.settled_long;
  nodes = kept.is_tree.nodes;
  queued = λ d v waits. (kept.queued d v waits).0;
  covered = λ v b. elim (cases_Bool (is_settled search.settled.items v)) [
    | inl s ↦ inr (inl (kept.is_tree.places v s))
    | inr uns ↦ elim (cases_lt (distance_at search.distances.items v) unreached) [
      | inl reached ↦ inr (inr (distance_at search.distances.items v, kept.waits v b uns reached))
      | inr far ↦ inl (record { far = far; unsettled = uns })
    ]
  ];
}

IsCleared-forget-here : (distances : List ℕ) (settled : List Bool) (node : ℕ) → node < length distances → node < length settled → (v : ℕ) → v ≡ node → IsCleared (slice_set distances node unreached) (slice_set settled node false) v
IsCleared-forget-here distances settled node d_in s_in v e = record {
  far = rw (e, get_or-set_same distances node unreached 0 d_in) (omega arith);
  unsettled = rw e (get_or-set_same settled node false false s_in);
}

-- a cleared node stays cleared as another is
pub IsCleared-forget : (distances : List ℕ) (settled : List Bool) (node : ℕ) → node < length distances → node < length settled
    → (v : ℕ) → ((v ≡ node) ⊎ IsCleared distances settled v) → IsCleared (slice_set distances node unreached) (slice_set settled node false) v
IsCleared-forget distances settled node d_in s_in v (inl e) = IsCleared-forget-here distances settled node d_in s_in v e
IsCleared-forget distances settled node d_in s_in v (inr was) = elim (cases_eq v node) [
  | inl e ↦ IsCleared-forget-here distances settled node d_in s_in v e
  | inr ne ↦ record {
    far = rw (get_or-set_other distances node v unreached 0 ne) was.far;
    unsettled = get_or-set_other settled node v false false ne ∙ was.unsettled;
  }
]
