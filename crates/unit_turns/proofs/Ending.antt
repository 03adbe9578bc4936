-- A side that came to its end gives marks that are violated once the arc is held.
use Rattle.std.proofs.Common.{◌≡◌, ◌≢◌, ℕ, ◌+◌, ◌<◌, ◌≤◌, Bool, true, false, List, length, map, get_or-set_same, get_or-set_other, refl, sym, ap, ◌∙◌, arith, inl, inr}
use Rattle.std.specs.Prelude.{slice_set, slice_index, ◌==◌, not}
use Rattle.std.proofs.lemmas.Bool.{cases_eq, cases_lt, both_ways, eq-eqb, ne_eqb}
use Rattle.std.proofs.lemmas.List.{length-set, get_or-map}
use Rattle.match_rules.specs.Sums.{count_below, when}
use Rattle.bounded_network.specs.Network.{NetworkValue, IsNetwork, IsCirculation, IsArc, AreViolated, arc_at, no_arc, entering, leaving, is_marked}
use Rattle.bounded_network.specs.declared.network.Arc.{Arc}
use Rattle.bounded_network.proofs.Sums.{count_below-equal}
use Rattle.residual_arcs.specs.Closed.{AreClosed}
use Rattle.residual_arcs.specs.Step.{start_of, end_of, left_on, carried}
use Rattle.residual_arcs.proofs.Closing.{AreViolated-from_closed}
use Rattle.residual_arcs.proofs.Steps.{start_in, end_in}
use Rattle.unit_turns.specs.declared.side.Side.{Side}
use Rattle.unit_turns.specs.Fixed.{with_fixed, fixed_arc}
use Rattle.unit_turns.specs.Side.{AreNumbered, IsEnded, place_of}
use Rattle.unit_turns.proofs.Units.{carried_below, unit_moved}

-- a number is 0 or not
some_of : (p : ℕ) → not (p == 0) ≡ true → 0 < p
some_of p h = elim (cases_lt 0 p) [
  | inl some ↦ some
  | inr none ↦ let e : p ≡ 0 = omega (arith, none) in absurd (both_ways (not (p == 0)) (rw e refl) h)
]

is_some : (p : ℕ) → 0 < p → not (p == 0) ≡ true
is_some p some = rw (ne_eqb p 0 (λ e. absurd (omega (arith, e, some)))) refl

none_of : (p : ℕ) → (p == 0) ≡ true → p ≡ 0
none_of p h = elim (cases_eq p 0) [
  | inl e ↦ e
  | inr ne ↦ absurd (both_ways (p == 0) (ne_eqb p 0 ne) h)
]

module _ (net : NetworkValue) (flow : List ℕ) (good : IsNetwork net) (round : IsCirculation net flow) (a : ℕ) (a_in : a < length net.arcs) (forward : Bool)
    (left : 0 < left_on (arc_at net a) (slice_index flow a) forward) where
  -- what the arc is held at, the network, and the amounts
  abbrev held : ℕ
  held = carried (slice_index flow a) forward 1

  abbrev fixed : NetworkValue
  fixed = with_fixed net a held

  abbrev amounts : List ℕ
  amounts = slice_set flow a held

  fixed-long : length fixed.arcs ≡ length net.arcs
  fixed-long = length-set net.arcs a (fixed_arc (arc_at net a) held)

  fixed-here : arc_at fixed a ≡ fixed_arc (arc_at net a) held
  fixed-here = get_or-set_same net.arcs a (fixed_arc (arc_at net a) held) no_arc a_in

  fixed-other : (k : ℕ) → k ≢ a → arc_at fixed k ≡ arc_at net k
  fixed-other k ne = rw get_or-set_other refl

  amounts-here : slice_index amounts a ≡ held
  amounts-here = get_or-set_same flow a held 0 (omega (arith, a_in, round.long))

  amounts-other : (k : ℕ) → k ≢ a → slice_index amounts k ≡ slice_index flow k
  amounts-other k ne = rw get_or-set_other refl

  -- the ends of the arcs are the same
  fixed-tail : (k : ℕ) → (arc_at fixed k).tail ≡ (arc_at net k).tail
  fixed-tail k = elim (cases_eq k a) [
    | inl e ↦ rw e (ap (λ (x : Arc). x.tail) fixed-here)
    | inr ne ↦ ap (λ (x : Arc). x.tail) (fixed-other k ne)
  ]

  fixed-head : (k : ℕ) → (arc_at fixed k).head ≡ (arc_at net k).head
  fixed-head k = elim (cases_eq k a) [
    | inl e ↦ rw e (ap (λ (x : Arc). x.head) fixed-here)
    | inr ne ↦ ap (λ (x : Arc). x.head) (fixed-other k ne)
  ]

  IsArc-fixed : IsArc net.nodes (arc_at net a) → IsArc net.nodes (fixed_arc (arc_at net a) held)
  IsArc-fixed arc = record {
    tail = arc.tail;
    head = arc.head;
    floor = omega arith;
    room = omega (arith, carried_below (arc_at net a) (slice_index flow a) forward (round.rooms a a_in) left, arc.room);
    cost_low = arc.cost_low;
    cost_high = arc.cost_high;
  }

  IsNetwork-fixed : IsNetwork fixed
  IsNetwork-fixed = record {
    few_nodes = good.few_nodes;
    few_arcs = omega (arith, fixed-long, good.few_arcs);
    each = λ k b. elim (cases_eq k a) [
      | inl e ↦ rw (e, fixed-here) (IsArc-fixed (good.each a a_in))
      | inr ne ↦ rw (fixed-other k ne) (good.each k (omega (arith, b, fixed-long)))
    ];
  }

  floors-fixed : (k : ℕ) → k < length fixed.arcs → (arc_at fixed k).floor ≤ slice_index amounts k
  floors-fixed k b = elim (cases_eq k a) [
    | inl e ↦ rw (e, fixed-here, amounts-here) (omega arith)
    | inr ne ↦ rw (fixed-other k ne, amounts-other k ne) (round.floors k (omega (arith, b, fixed-long)))
  ]

  rooms-fixed : (k : ℕ) → k < length fixed.arcs → slice_index amounts k ≤ (arc_at fixed k).room
  rooms-fixed k b = elim (cases_eq k a) [
    | inl e ↦ rw (e, fixed-here, amounts-here) (omega arith)
    | inr ne ↦ rw (fixed-other k ne, amounts-other k ne) (round.rooms k (omega (arith, b, fixed-long)))
  ]

  -- what enters and leaves a node
  entering-fixed : (v : ℕ) → entering fixed amounts v ≡ entering net amounts v
  entering-fixed v =
      let f : ℕ → ℕ = λ k. when ((arc_at fixed k).head == v) (slice_index amounts k) in
      let g : ℕ → ℕ = λ k. when ((arc_at net k).head == v) (slice_index amounts k) in
      ap (λ n. count_below n f) fixed-long ∙ count_below-equal (length net.arcs) f g (λ k b. ap (λ u. when (u == v) (slice_index amounts k)) (fixed-head k))

  leaving-fixed : (v : ℕ) → leaving fixed amounts v ≡ leaving net amounts v
  leaving-fixed v =
      let f : ℕ → ℕ = λ k. when ((arc_at fixed k).tail == v) (slice_index amounts k) in
      let g : ℕ → ℕ = λ k. when ((arc_at net k).tail == v) (slice_index amounts k) in
      ap (λ n. count_below n f) fixed-long ∙ count_below-equal (length net.arcs) f g (λ k b. ap (λ u. when (u == v) (slice_index amounts k)) (fixed-tail k))

  -- a unit more enters the end of the step, and leaves its start
  one_more : (v : ℕ) → v < net.nodes → entering fixed amounts v + when (start_of (arc_at net a) forward == v) 1 ≡ leaving fixed amounts v + when (end_of (arc_at net a) forward == v) 1
  one_more v b = omega (arith, unit_moved net flow a forward round.long a_in (round.floors a a_in) left v, round.balanced v b, entering-fixed v, leaving-fixed v)

  -- nothing is left on the arc that is held
  left-held : (b : Bool) → left_on (fixed_arc (arc_at net a) held) held b ≡ 0
  left-held true = omega arith
  left-held false = omega arith

  -- marks that hold the end of the step and not its start, and that no other step leaves
  pub AreViolated-marks : (marks : List Bool) → is_marked marks (end_of (arc_at net a) forward) ≡ true → is_marked marks (start_of (arc_at net a) forward) ≡ false
      → ((k : ℕ) (b : Bool) → k < length net.arcs → k ≢ a → is_marked marks (start_of (arc_at net k) b) ≡ true → 0 < left_on (arc_at net k) (slice_index flow k) b → is_marked marks (end_of (arc_at net k) b) ≡ true)
      → AreViolated fixed marks
  AreViolated-marks marks end_marked start_unmarked closed =
      let s : ℕ = start_of (arc_at net a) forward in
      let e : ℕ = end_of (arc_at net a) forward in
      let e_in : e < net.nodes = end_in net.nodes (arc_at net a) forward (good.each a a_in) in
      let none_at : (v : ℕ) → is_marked marks v ≡ true → when (s == v) 1 ≡ 0 = λ v marked.
      rw (ne_eqb s v (λ q. absurd (both_ways (is_marked marks v) (ap (is_marked marks) (sym q) ∙ start_unmarked) marked))) refl in
      let all_closed : AreClosed fixed amounts marks = λ k b k_in marked some. elim (cases_eq k a) [
        | inl same ↦
            let some_here : 0 < left_on (fixed_arc (arc_at net a) held) held b = rw (same, fixed-here, amounts-here) at some in
            absurd (omega (arith, some_here, left-held b))
        | inr ne ↦ rw (fixed-other k ne) (closed k b (omega (arith, k_in, fixed-long)) ne (rw (fixed-other k ne) at marked) (rw (fixed-other k ne, amounts-other k ne) at some))
      ] in
      let calm : (v : ℕ) → v < net.nodes → is_marked marks v ≡ true → leaving fixed amounts v ≤ entering fixed amounts v = λ v b marked. omega (arith, one_more v b, none_at v marked) in
      let here : when (e == e) 1 ≡ 1 = rw (eq-eqb e e refl) refl in
      let rich : leaving fixed amounts e < entering fixed amounts e = omega (arith, one_more e e_in, none_at e end_marked, here) in
      AreViolated-from_closed fixed amounts marks IsNetwork-fixed floors-fixed rooms-fixed all_closed calm e e_in end_marked rich

  -- the nodes of the side ahead, at its end
  pub AreViolated-ahead : (side : Side) → AreNumbered net side → IsEnded net flow (record { ahead = true; avoid = a }) side → 0 < place_of side (end_of (arc_at net a) forward) → place_of side (start_of (arc_at net a) forward) ≡ 0
      → AreViolated fixed (map (λ p. not (p == 0)) side.places.items)
  AreViolated-ahead side numbered ended end_placed start_unplaced =
      let marks : List Bool = map (λ p. not (p == 0)) side.places.items in
      let mark : (v : ℕ) → v < net.nodes → is_marked marks v ≡ not (place_of side v == 0) = λ v b. get_or-map (λ p. not (p == 0)) side.places.items v 0 false (omega (arith, b, numbered.long)) in
      AreViolated-marks marks
      (mark (end_of (arc_at net a) forward) (end_in net.nodes (arc_at net a) forward (good.each a a_in)) ∙ is_some (place_of side (end_of (arc_at net a) forward)) end_placed)
      (mark (start_of (arc_at net a) forward) (start_in net.nodes (arc_at net a) forward (good.each a a_in)) ∙ ap (λ p. not (p == 0)) start_unplaced)
      (λ k b k_in ne marked some.
      let placed : 0 < place_of side (start_of (arc_at net k) b) = some_of (place_of side (start_of (arc_at net k) b)) (sym (mark (start_of (arc_at net k) b) (start_in net.nodes (arc_at net k) b (good.each k k_in))) ∙ marked) in
      mark (end_of (arc_at net k) b) (end_in net.nodes (arc_at net k) b (good.each k k_in))
      ∙ is_some (place_of side (end_of (arc_at net k) b)) (ended (start_of (arc_at net k) b) placed k b k_in refl record { others = ne; left = some }))

  -- where the side behind has the end of a step on which something is left, it has its start
  reached_back : (side : Side) → IsEnded net flow (record { ahead = false; avoid = a }) side → (k : ℕ) (b : Bool) → k < length net.arcs → k ≢ a → 0 < left_on (arc_at net k) (slice_index flow k) b
      → 0 < place_of side (end_of (arc_at net k) b) → 0 < place_of side (start_of (arc_at net k) b)
  reached_back side ended k true k_in ne some placed = ended (arc_at net k).head placed k false k_in refl record { others = ne; left = some }
  reached_back side ended k false k_in ne some placed = ended (arc_at net k).tail placed k true k_in refl record { others = ne; left = some }

  -- all nodes but those of the side behind, at its end
  pub AreViolated-behind : (side : Side) → AreNumbered net side → IsEnded net flow (record { ahead = false; avoid = a }) side → place_of side (end_of (arc_at net a) forward) ≡ 0 → 0 < place_of side (start_of (arc_at net a) forward)
      → AreViolated fixed (map (λ p. p == 0) side.places.items)
  AreViolated-behind side numbered ended end_unplaced start_placed =
      let marks : List Bool = map (λ p. p == 0) side.places.items in
      let mark : (v : ℕ) → v < net.nodes → is_marked marks v ≡ (place_of side v == 0) = λ v b. get_or-map (λ p. p == 0) side.places.items v 0 false (omega (arith, b, numbered.long)) in
      AreViolated-marks marks
      (mark (end_of (arc_at net a) forward) (end_in net.nodes (arc_at net a) forward (good.each a a_in)) ∙ ap (λ p. p == 0) end_unplaced)
      (mark (start_of (arc_at net a) forward) (start_in net.nodes (arc_at net a) forward (good.each a a_in)) ∙ ne_eqb (place_of side (start_of (arc_at net a) forward)) 0 (λ e. absurd (omega (arith, e, start_placed))))
      (λ k b k_in ne marked some.
      let unplaced : place_of side (start_of (arc_at net k) b) ≡ 0 = none_of (place_of side (start_of (arc_at net k) b)) (sym (mark (start_of (arc_at net k) b) (start_in net.nodes (arc_at net k) b (good.each k k_in))) ∙ marked) in
      let end_none : place_of side (end_of (arc_at net k) b) ≡ 0 = elim (cases_lt 0 (place_of side (end_of (arc_at net k) b))) [
        | inl placed ↦ absurd (omega (arith, unplaced, reached_back side ended k b k_in ne some placed))
        | inr none ↦ omega (arith, none)
      ] in
      mark (end_of (arc_at net k) b) (end_in net.nodes (arc_at net k) b (good.each k k_in)) ∙ ap (λ p. p == 0) end_none)
