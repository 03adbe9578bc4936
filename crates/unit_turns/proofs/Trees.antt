-- The arcs of a side: no two of its nodes are reached by one arc, and the other side has none of them.
use Rattle.std.proofs.Common.{◌≡◌, ◌≢◌, ℕ, ◌<◌, ◌⊎◌, Bool, true, false, List, length, refl, sym, ap, subst, ◌∙◌, arith, inl, inr}
use Rattle.std.proofs.lemmas.Bool.{cases_lt}
use Rattle.bounded_network.specs.Network.{NetworkValue, arc_at}
use Rattle.bounded_network.specs.declared.network.Arc.{Arc}
use Rattle.residual_arcs.specs.Step.{start_of, end_of}
use Rattle.unit_turns.specs.declared.side.Aim.{Aim}
use Rattle.unit_turns.specs.declared.side.Side.{Side}
use Rattle.unit_turns.specs.declared.scanning.Meeting.{Meeting}
use Rattle.unit_turns.specs.Side.{reach_at, place_of, IsSide, AreApart, IsMeeting}
use Rattle.unit_turns.proofs.Growing.{node_placed}

-- two steps over an arc have the same ends, or each ends where the other starts
two_steps : (arc : Arc) (f g : Bool) → (end_of arc f ≡ end_of arc g) ⊎ ((end_of arc f ≡ start_of arc g) × (start_of arc f ≡ end_of arc g))
two_steps arc true true = inl refl
two_steps arc true false = inr (refl, refl)
two_steps arc false true = inr (refl, refl)
two_steps arc false false = inl refl

-- what holds of both ends of one step holds of both ends of each step over its arc
both_ends : (P : ℕ → Type 0) (arc : Arc) (f g : Bool) → P (start_of arc f) → P (end_of arc f) → P (start_of arc g) × P (end_of arc g)
both_ends P arc true true at_start at_end = (at_start, at_end)
both_ends P arc true false at_start at_end = (at_end, at_start)
both_ends P arc false true at_start at_end = (at_end, at_start)
both_ends P arc false false at_start at_end = (at_start, at_end)

module _ (net : NetworkValue) (flow : List ℕ) (aim : Aim) (side : Side) (tree : IsSide net flow aim side) where
  -- nodes of two places differ
  node_place : (i j : ℕ) → i < length side.reaches.items → j < length side.reaches.items → (reach_at side i).node ≡ (reach_at side j).node → i ≡ j
  node_place i j i_in j_in same = omega (arith, tree.numbered.places i i_in, tree.numbered.places j j_in, ap (place_of side) same)

  -- the side has both ends of each step over an arc by which it has reached a node
  pub arc_ends : (i : ℕ) (forward : Bool) → 0 < i → i < length side.reaches.items
      → (0 < place_of side (start_of (arc_at net (reach_at side i).step.arc) forward)) × (0 < place_of side (end_of (arc_at net (reach_at side i).step.arc) forward))
  arc_ends i forward above i_in =
      let reach = tree.each i above i_in in
      both_ends (λ v. 0 < place_of side v) (arc_at net (reach_at side i).step.arc) (reach_at side i).step.forward forward
      (rw reach.starts (node_placed net side tree.numbered (reach_at side i).from (omega (arith, reach.from, i_in))))
      (rw reach.ends (node_placed net side tree.numbered i i_in))

  arcs_below : (i j : ℕ) → 0 < i → i < j → j < length side.reaches.items → (reach_at side i).step.arc ≢ (reach_at side j).step.arc
  arcs_below i j above below j_in same =
      let one = tree.each i above (omega (arith, below, j_in)) in
      let two = tree.each j (omega (arith, below)) j_in in
      let arc : Arc = arc_at net (reach_at side j).step.arc in
      let starts : start_of arc (reach_at side i).step.forward ≡ (reach_at side (reach_at side i).from).node = ap (λ a. start_of (arc_at net a) (reach_at side i).step.forward) (sym same) ∙ one.starts in
      let ends : end_of arc (reach_at side i).step.forward ≡ (reach_at side i).node = ap (λ a. end_of (arc_at net a) (reach_at side i).step.forward) (sym same) ∙ one.ends in
      elim (two_steps arc (reach_at side i).step.forward (reach_at side j).step.forward) [
        | inl e ↦
            let same_node : (reach_at side i).node ≡ (reach_at side j).node = sym ends ∙ e ∙ two.ends in
            absurd (omega (arith, below, node_place i j (omega (arith, below, j_in)) j_in same_node))
        | inr turned ↦
            let from_i : (reach_at side (reach_at side i).from).node ≡ (reach_at side j).node = sym starts ∙ turned.1 ∙ two.ends in
            absurd (omega (arith, below, one.from, node_place (reach_at side i).from j (omega (arith, one.from, below, j_in)) j_in from_i))
      ]

  -- nodes of two places are reached by two arcs
  pub arcs_apart : (i j : ℕ) → 0 < i → 0 < j → i < length side.reaches.items → j < length side.reaches.items → i ≢ j → (reach_at side i).step.arc ≢ (reach_at side j).step.arc
  arcs_apart i j i_above j_above i_in j_in ne same = elim (cases_lt i j) [
    | inl below ↦ arcs_below i j i_above below j_in same
    | inr above ↦ arcs_below j i j_above (omega (arith, above, ne)) i_in (sym same)
  ]

-- an arc by which one side has reached a node is none by which the other has
pub sides_apart : (net : NetworkValue) (flow : List ℕ) (one two : Aim) (side other : Side) → IsSide net flow one side → IsSide net flow two other → AreApart side other
    → (i j : ℕ) → 0 < i → i < length side.reaches.items → 0 < j → j < length other.reaches.items → (reach_at side i).step.arc ≢ (reach_at other j).step.arc
sides_apart net flow one two side other tree other_tree apart i j i_above i_in j_above j_in same =
    let here = (arc_ends net flow one side tree i true i_above i_in).0 in
    let there = (arc_ends net flow two other other_tree j true j_above j_in).0 in
    apart (start_of (arc_at net (reach_at other j).step.arc) true) (subst (λ a. 0 < place_of side (start_of (arc_at net a) true)) same here) there

module _ (net : NetworkValue) (flow : List ℕ) (one two : Aim) (side other : Side) (tree : IsSide net flow one side) (other_tree : IsSide net flow two other) (apart : AreApart side other)
    (meeting : Meeting) (meets : IsMeeting net flow one side other meeting) where
  starts_here : 0 < place_of side (start_of (arc_at net meeting.step.arc) meeting.step.forward)
  starts_here = rw meets.starts (node_placed net side tree.numbered meeting.from meets.from)

  ends_there : 0 < place_of other (end_of (arc_at net meeting.step.arc) meeting.step.forward)
  ends_there = rw meets.ends (node_placed net other other_tree.numbered meeting.to meets.to)

  -- the arc between the sides is none by which either has reached a node
  pub meeting_apart : (i : ℕ) → 0 < i → i < length side.reaches.items → (reach_at side i).step.arc ≢ meeting.step.arc
  meeting_apart i above i_in same =
      let here = (arc_ends net flow one side tree i meeting.step.forward above i_in).1 in
      apart (end_of (arc_at net meeting.step.arc) meeting.step.forward) (subst (λ a. 0 < place_of side (end_of (arc_at net a) meeting.step.forward)) same here) ends_there

  pub meeting_aside : (i : ℕ) → 0 < i → i < length other.reaches.items → (reach_at other i).step.arc ≢ meeting.step.arc
  meeting_aside i above i_in same =
      let there = (arc_ends net flow two other other_tree i meeting.step.forward above i_in).0 in
      apart (start_of (arc_at net meeting.step.arc) meeting.step.forward) starts_here (subst (λ a. 0 < place_of other (start_of (arc_at net a) meeting.step.forward)) same there)
