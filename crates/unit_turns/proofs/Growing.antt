-- A side as it grows.
use Rattle.std.proofs.Common.{◌≡◌, ◌≢◌, ℕ, zero, suc, ◌+◌, ◌-◌, ◌<◌, ◌≤◌, Bool, true, false, List, [], ◌∷◌, ◌++◌, length, get_or-set_same, get_or-set_other, refl, sym, ap, subst, ◌∙◌, arith, inl, inr}
use Rattle.std.specs.Prelude.{slice_set, slice_index, not, ◌==◌}
use Rattle.std.proofs.lemmas.Bool.{cases_eq, cases_lt, ne_eqb}
use Rattle.std.proofs.lemmas.List.{length-set, get_or_push, get_or_append_left, length_push}
use Rattle.match_rules.specs.Sums.{count_below, when}
use Rattle.bounded_network.specs.Network.{NetworkValue, IsCirculation, arc_at}
use Rattle.bounded_network.specs.declared.network.Arc.{Arc}
use Rattle.bounded_network.proofs.Sums.{count_below-at_most}
use Rattle.residual_arcs.specs.declared.step.Step.{Step}
use Rattle.residual_arcs.specs.declared.links.Links.{Links}
use Rattle.residual_arcs.specs.Links.{HasChoice, link_at}
use Rattle.residual_arcs.specs.Step.{start_of, end_of, left_on}
use Rattle.residual_arcs.proofs.Steps.{choice-from_left}
use Rattle.residual_arcs.proofs.Amounts.{count_below-change, when_at_most}
use Rattle.unit_turns.specs.declared.side.Aim.{Aim}
use Rattle.unit_turns.specs.declared.side.Reach.{Reach}
use Rattle.unit_turns.specs.declared.side.Side.{Side}
use Rattle.unit_turns.specs.declared.scanning.Meeting.{Meeting}
use Rattle.unit_turns.specs.Over.{AreLinksOver}
use Rattle.unit_turns.specs.Side.{toward, reach_at, no_reach, place_of, AreNumbered, IsReach, IsSide, IsBlank, IsOpen, AreApart, IsGrown, IsScanned, IsEnded, IsMeeting}

-- the side has no more nodes than the network
pub side_short : (net : NetworkValue) (side : Side) → AreNumbered net side → length side.reaches.items ≤ net.nodes
side_short net side numbered =
    let bound = count_below-at_most net.nodes (λ v. when (not (place_of side v == 0)) 1) 1 (λ v b. when_at_most (not (place_of side v == 0)) 1) in
    omega (arith, bound, numbered.counted)

-- a node with a place is a node of the network
pub placed_in : (net : NetworkValue) (side : Side) → AreNumbered net side → (v : ℕ) → 0 < place_of side v → v < net.nodes
placed_in net side numbered v placed =
    let at = numbered.reached v placed in
    subst (λ u. u < net.nodes) at.1 (numbered.nodes (place_of side v - 1) (omega (arith, at.0, placed)))

-- the nodes of the side have a place
pub node_placed : (net : NetworkValue) (side : Side) → AreNumbered net side → (i : ℕ) → i < length side.reaches.items → 0 < place_of side (reach_at side i).node
node_placed net side numbered i b = omega (arith, numbered.places i b)

-- a node that is reached is added
module _ (net : NetworkValue) (side new : Side) (r : Reach) (numbered : AreNumbered net side) (r_in : r.node < net.nodes) (unplaced : place_of side r.node ≡ 0)
    (reaches : new.reaches.items ≡ side.reaches.items ++ r ∷ []) (places : new.places.items ≡ slice_set side.places.items r.node (length side.reaches.items + 1)) where
  pub added-old : (i : ℕ) → i < length side.reaches.items → reach_at new i ≡ reach_at side i
  added-old i b = rw reaches (get_or_append_left side.reaches.items (r ∷ []) no_reach i b)

  pub added-new : reach_at new (length side.reaches.items) ≡ r
  added-new = rw reaches (get_or_push side.reaches.items r no_reach (length side.reaches.items) refl)

  pub added-long : length new.reaches.items ≡ length side.reaches.items + 1
  added-long = rw reaches (omega (arith, length_push side.reaches.items r))

  placed-new : place_of new r.node ≡ length side.reaches.items + 1
  placed-new = rw places (get_or-set_same side.places.items r.node (length side.reaches.items + 1) 0 (omega (arith, r_in, numbered.long)))

  placed-old : (v : ℕ) → v ≢ r.node → place_of new v ≡ place_of side v
  placed-old v ne = rw places (rw get_or-set_other refl)

  counted : count_below net.nodes (λ v. when (not (place_of new v == 0)) 1) ≡ length new.reaches.items
  counted =
      let f : ℕ → ℕ = λ v. when (not (place_of side v == 0)) 1 in
      let g : ℕ → ℕ = λ v. when (not (place_of new v == 0)) 1 in
      let change = count_below-change net.nodes f g r.node r_in (λ v b ne. ap (λ p. when (not (p == 0)) 1) (sym (placed-old v ne))) in
      let before : f r.node ≡ 0 = ap (λ p. when (not (p == 0)) 1) unplaced in
      let here : place_of new r.node ≢ 0 = λ e. absurd (omega (arith, e, placed-new)) in
      let after : g r.node ≡ 1 = ap (λ t. when (not t) 1) (ne_eqb (place_of new r.node) 0 here) in
      omega (arith, change, before, after, numbered.counted, added-long)

  pub AreNumbered-added : AreNumbered net new
  AreNumbered-added = record {
    long = rw places (omega (arith, length-set side.places.items r.node (length side.reaches.items + 1), numbered.long));
    counted = counted;
    nodes = λ i b. elim (cases_lt i (length side.reaches.items)) [
      | inl below ↦ rw (added-old i below) (numbered.nodes i below)
      | inr above ↦ let e : i ≡ length side.reaches.items = omega (arith, above, b, added-long) in rw (e, added-new) r_in
    ];
    places = λ i b. elim (cases_lt i (length side.reaches.items)) [
      | inl below ↦
          let ne : (reach_at side i).node ≢ r.node = λ e. absurd (omega (arith, numbered.places i below, ap (place_of side) e, unplaced)) in
          rw (added-old i below) (placed-old (reach_at side i).node ne ∙ numbered.places i below)
      | inr above ↦ let e : i ≡ length side.reaches.items = omega (arith, above, b, added-long) in rw (e, added-new) placed-new
    ];
    reached = λ v placed. elim (cases_eq v r.node) [
      | inl e ↦
          let p : place_of new v ≡ length side.reaches.items + 1 = rw e placed-new in
          let q : place_of new v - 1 ≡ length side.reaches.items = omega (arith, p) in
          (omega (arith, p, added-long), rw (q, added-new) (sym e))
      | inr ne ↦
          let same = placed-old v ne in
          let was = numbered.reached v (omega (arith, placed, same)) in
          (omega (arith, same, was.0, added-long), rw same (rw (added-old (place_of side v - 1) (omega (arith, was.0, placed, same))) was.1))
    ];
  }

  pub IsGrown-added : IsGrown side new
  IsGrown-added = record {
    longer = omega (arith, added-long);
    kept = added-old;
    reached = λ v placed. elim (cases_eq v r.node) [
      | inl e ↦ absurd (omega (arith, placed, ap (place_of side) e, unplaced))
      | inr ne ↦ omega (arith, placed, placed-old v ne)
    ];
  }

  pub reached-added : 0 < place_of new r.node
  reached-added = omega (arith, placed-new)

  -- the nodes stay apart from those of another side that doesn't have the new one
  pub AreApart-added : (other : Side) → AreApart side other → place_of other r.node ≡ 0 → AreApart new other
  AreApart-added other apart none v here there = elim (cases_eq v r.node) [
    | inl e ↦ absurd (omega (arith, there, ap (place_of other) e, none))
    | inr ne ↦ apart v (omega (arith, here, placed-old v ne)) there
  ]

-- a reached node stays reached so in a side that has grown
pub IsReach-grown : (net : NetworkValue) (flow : List ℕ) (aim : Aim) (side new : Side) (i : ℕ) → IsGrown side new → i < length side.reaches.items → IsReach net flow aim side i → IsReach net flow aim new i
IsReach-grown net flow aim side new i grown b reach =
    let here = grown.kept i b in
    let from = grown.kept (reach_at side i).from (omega (arith, reach.from, b)) in
    record {
      from = rw here reach.from;
      arc = rw here reach.arc;
      starts = rw (here, from) reach.starts;
      ends = rw here reach.ends;
      passes = rw here reach.passes;
    }

-- the side with the new node
pub IsSide-added : (net : NetworkValue) (flow : List ℕ) (aim : Aim) (side new : Side) (r : Reach) → IsSide net flow aim side → r.node < net.nodes → place_of side r.node ≡ 0
    → new.reaches.items ≡ side.reaches.items ++ r ∷ [] → new.places.items ≡ slice_set side.places.items r.node (length side.reaches.items + 1)
    → r.from < length side.reaches.items → r.step.arc < length net.arcs → start_of (arc_at net r.step.arc) r.step.forward ≡ (reach_at side r.from).node
    → end_of (arc_at net r.step.arc) r.step.forward ≡ r.node → IsOpen net flow aim r.step.arc r.step.forward → IsSide net flow aim new
IsSide-added net flow aim side new r was r_in unplaced reaches places from arc starts ends passes =
    let n : ℕ = length side.reaches.items in
    let grown : IsGrown side new = IsGrown-added net side new r was.numbered r_in unplaced reaches places in
    let last : reach_at new n ≡ r = added-new net side new r was.numbered r_in unplaced reaches places in
    let long : length new.reaches.items ≡ n + 1 = added-long net side new r was.numbered r_in unplaced reaches places in
    let before = grown.kept r.from from in
    record {
      numbered = AreNumbered-added net side new r was.numbered r_in unplaced reaches places;
      some = omega (arith, long);
      each = λ i above b. elim (cases_lt i n) [
        | inl below ↦ IsReach-grown net flow aim side new i grown below (was.each i above below)
        | inr past ↦
            let e : i ≡ n = omega (arith, past, b, long) in
            subst (λ k. IsReach net flow aim new k) (sym e) record {
              from = rw last from;
              arc = rw last arc;
              starts = rw (last, before) starts;
              ends = rw last ends;
              passes = rw last passes;
            }
      ];
    }

-- a side that has not changed
pub IsGrown-same : (side : Side) → IsGrown side side
IsGrown-same side = record { longer = omega arith; kept = λ i b. refl; reached = λ v placed. placed }

-- a side whose lists are the same
module _ (side new : Side) (reaches : new.reaches.items ≡ side.reaches.items) (places : new.places.items ≡ side.places.items) where
  pub IsGrown-equal : IsGrown side new
  IsGrown-equal = record {
    longer = rw reaches (omega arith);
    kept = λ i b. rw reaches refl;
    reached = λ v placed. rw places placed;
  }

  pub AreNumbered-equal : (net : NetworkValue) → AreNumbered net side → AreNumbered net new
  AreNumbered-equal net numbered = record {
    long = rw places numbered.long;
    counted = rw (places, reaches) numbered.counted;
    nodes = rw reaches numbered.nodes;
    places = rw (places, reaches) numbered.places;
    reached = rw (places, reaches) numbered.reached;
  }

  pub IsSide-equal : (net : NetworkValue) (flow : List ℕ) (aim : Aim) → IsSide net flow aim side → IsSide net flow aim new
  IsSide-equal net flow aim was =
      let long : length new.reaches.items ≡ length side.reaches.items = rw reaches refl in
      record {
        numbered = AreNumbered-equal net was.numbered;
        some = omega (arith, long, was.some);
        each = λ i above b. let below : i < length side.reaches.items = omega (arith, b, long) in IsReach-grown net flow aim side new i IsGrown-equal below (was.each i above below);
      }

  pub AreApart-equal : (other : Side) → AreApart side other → AreApart new other
  AreApart-equal other apart v here there = apart v (rw places at here) there

pub IsGrown-then : (a b c : Side) → IsGrown a b → IsGrown b c → IsGrown a c
IsGrown-then a b c one two = record {
  longer = omega (arith, one.longer, two.longer);
  kept = λ i below. two.kept i (omega (arith, below, one.longer)) ∙ one.kept i below;
  reached = λ v placed. two.reached v (one.reached v placed);
}

-- what is scanned stays scanned
pub IsScanned-grown : (net : NetworkValue) (flow : List ℕ) (aim : Aim) (side new : Side) (v : ℕ) → IsGrown side new → IsScanned net flow aim side v → IsScanned net flow aim new v
IsScanned-grown net flow aim side new v grown scanned a forward a_in starts passes = grown.reached (end_of (arc_at net a) forward) (scanned a forward a_in starts passes)

-- the nodes of the places below a limit are scanned
abbrev pub AreScannedTo : NetworkValue → List ℕ → Aim → Side → ℕ → Type 0
AreScannedTo net flow aim side limit = (i : ℕ) → i < limit → IsScanned net flow aim side (reach_at side i).node

pub AreScannedTo-grown : (net : NetworkValue) (flow : List ℕ) (aim : Aim) (side new : Side) (limit : ℕ) → limit ≤ length side.reaches.items → IsGrown side new → AreScannedTo net flow aim side limit → AreScannedTo net flow aim new limit
AreScannedTo-grown net flow aim side new limit within grown scanned i b =
    rw (grown.kept i (omega (arith, b, within))) (IsScanned-grown net flow aim side new (reach_at side i).node grown (scanned i b))

pub AreScannedTo-more : (net : NetworkValue) (flow : List ℕ) (aim : Aim) (side new : Side) (limit : ℕ) → limit < length side.reaches.items → IsGrown side new → AreScannedTo net flow aim side limit
    → IsScanned net flow aim new (reach_at side limit).node → AreScannedTo net flow aim new (limit + 1)
AreScannedTo-more net flow aim side new limit within grown scanned last i b = elim (cases_lt i limit) [
  | inl below ↦ AreScannedTo-grown net flow aim side new limit (omega (arith, within)) grown scanned i below
  | inr above ↦ let e : i ≡ limit = omega (arith, above, b) in rw (e, grown.kept limit within) last
]

-- once all are scanned the side is at its end
pub IsEnded-from : (net : NetworkValue) (flow : List ℕ) (aim : Aim) (side : Side) (limit : ℕ) → AreNumbered net side → length side.reaches.items ≤ limit → AreScannedTo net flow aim side limit → IsEnded net flow aim side
IsEnded-from net flow aim side limit numbered all scanned v placed =
    let at = numbered.reached v placed in
    subst (λ u. IsScanned net flow aim side u) at.1 (scanned (place_of side v - 1) (omega (arith, at.0, placed, all)))

-- a side that has reached no node
module _ (net : NetworkValue) (side : Side) (blank : IsBlank net side) where
  blank-long : length side.reaches.items ≡ 0
  blank-long = ap (λ xs. length xs) blank.none

  count_none : (n : ℕ) → count_below n (λ v. when (not (place_of side v == 0)) 1) ≡ 0
  count_none zero = refl
  count_none (suc n) =
      let last : when (not (place_of side n == 0)) 1 ≡ 0 = ap (λ p. when (not (p == 0)) 1) (blank.unplaced n) in
      omega (arith, count_none n, last)

  pub AreNumbered-blank : AreNumbered net side
  AreNumbered-blank = record {
    long = blank.long;
    counted = omega (arith, count_none net.nodes, blank-long);
    nodes = λ i b. absurd (omega (arith, b, blank-long));
    places = λ i b. absurd (omega (arith, b, blank-long));
    reached = λ v placed. absurd (omega (arith, placed, blank.unplaced v));
  }

-- a side with its root alone
module _ (net : NetworkValue) (side new : Side) (r : Reach) (blank : IsBlank net side) (r_in : r.node < net.nodes)
    (reaches : new.reaches.items ≡ side.reaches.items ++ r ∷ []) (places : new.places.items ≡ slice_set side.places.items r.node (length side.reaches.items + 1)) where
  pub AreNumbered-root : AreNumbered net new
  AreNumbered-root = AreNumbered-added net side new r (AreNumbered-blank net side blank) r_in (blank.unplaced r.node) reaches places

  root-long : length new.reaches.items ≡ 1
  root-long = omega (arith, added-long net side new r (AreNumbered-blank net side blank) r_in (blank.unplaced r.node) reaches places, blank-long net side blank)

  pub IsSide-root : (flow : List ℕ) (aim : Aim) → IsSide net flow aim new
  IsSide-root flow aim = record {
    numbered = AreNumbered-root;
    some = omega (arith, root-long);
    each = λ i above b. absurd (omega (arith, above, b, root-long));
  }

  pub root-node : (reach_at new 0).node ≡ r.node
  root-node = rw reaches (rw blank.none refl)

  pub root-alone : (v : ℕ) → 0 < place_of new v → v ≡ r.node
  root-alone v placed =
      let at = AreNumbered-root.reached v placed in
      let first : place_of new v - 1 ≡ 0 = omega (arith, at.0, root-long) in
      sym at.1 ∙ ap (λ i. (reach_at new i).node) first ∙ root-node

-- the ends of a step that is turned
turned_ends : (arc : Arc) (forward : Bool) → (start_of arc (not forward) ≡ end_of arc forward) × (end_of arc (not forward) ≡ start_of arc forward)
turned_ends arc true = (refl, refl)
turned_ends arc false = (refl, refl)

-- a meeting as the other side sees it
pub IsMeeting-turned : (net : NetworkValue) (flow : List ℕ) (avoid : ℕ) (side other : Side) (meeting new : Meeting) → IsMeeting net flow (record { ahead = false; avoid = avoid }) side other meeting
    → new.from ≡ meeting.to → new.to ≡ meeting.from → new.step.arc ≡ meeting.step.arc → new.step.forward ≡ not meeting.step.forward → IsMeeting net flow (record { ahead = true; avoid = avoid }) other side new
IsMeeting-turned net flow avoid side other meeting new meets from to arc forward =
    let ends = turned_ends (arc_at net meeting.step.arc) meeting.step.forward in
    record {
      from = rw from meets.to;
      to = rw to meets.from;
      arc = rw arc meets.arc;
      starts = rw (arc, forward, from) (ends.0 ∙ meets.ends);
      ends = rw (arc, forward, to) (ends.1 ∙ meets.starts);
      passes = record { others = rw arc meets.passes.others; left = rw (arc, forward) meets.passes.left };
    }

-- what may be taken turned may be taken: the arc has a choice
open-choice : (arc : Arc) (x : ℕ) (ahead forward : Bool) → arc.floor ≤ x → x ≤ arc.room → 0 < left_on arc x (toward ahead forward) → HasChoice arc
open-choice arc x ahead forward above below left = choice-from_left arc x (toward ahead forward) above below left

-- a node is scanned once the ends of the open steps of its links are reached
pub scanned_from_links : (net : NetworkValue) (flow : List ℕ) (aim : Aim) (side : Side) (links : Links) (v : ℕ) → IsCirculation net flow → AreLinksOver net links
    → ((i : ℕ) → slice_index links.starts.items v ≤ i → i < slice_index links.starts.items (v + 1) → IsOpen net flow aim (link_at links.all.items i).step.arc (link_at links.all.items i).step.forward → 0 < place_of side (link_at links.all.items i).to)
    → IsScanned net flow aim side v
scanned_from_links net flow aim side links v round over followed a forward a_in starts passes =
    let step : Step = record { arc = a; forward = forward } in
    let choice = open-choice (arc_at net a) (slice_index flow a) aim.ahead forward (round.floors a a_in) (round.rooms a a_in) passes.left in
    let there = over.whole step a_in choice in
    let i_in : there.0 < length links.all.items = omega (arith, there.2, over.within (start_of (arc_at net a) forward + 1)) in
    let from : slice_index links.starts.items v ≤ there.0 = rw starts at there.1 in
    let to : there.0 < slice_index links.starts.items (v + 1) = rw starts at there.2 in
    let same_arc : (link_at links.all.items there.0).step.arc ≡ a = ap (λ (t : Step). t.arc) there.3 in
    let same_way : (link_at links.all.items there.0).step.forward ≡ forward = ap (λ (t : Step). t.forward) there.3 in
    let placed = followed there.0 from to (rw (same_arc, same_way) passes) in
    let end : (link_at links.all.items there.0).to ≡ end_of (arc_at net a) forward = over.ends there.0 i_in ∙ rw (same_arc, same_way) refl in
    subst (λ u. 0 < place_of side u) end placed
