-- The two sides of a search for a path: the nodes that steps reach from its start, and those from which they reach its end.
use Rattle.std.specs.Prelude.{ℕ, ◌≡◌, ◌≢◌, ◌+◌, ◌-◌, ◌<◌, ◌≤◌, ◌==◌, Bool, false, not, if◌then◌else◌, List, [], length, slice_index, slice_index_or}
use Rattle.match_rules.specs.Sums.{count_below, when}
use Rattle.bounded_network.specs.Network.{NetworkValue, arc_at}
use Rattle.residual_arcs.specs.Step.{start_of, end_of, left_on}
use Rattle.unit_turns.specs.declared.side.Aim.{Aim}
use Rattle.unit_turns.specs.declared.side.Reach.{Reach}
use Rattle.unit_turns.specs.declared.side.Side.{Side}
use Rattle.unit_turns.specs.declared.scanning.Meeting.{Meeting}

abbrev pub no_reach : Reach
no_reach = record { node = 0; from = 0; step = record { arc = 0; forward = false } }

abbrev pub reach_at : Side → ℕ → Reach
reach_at side i = slice_index_or side.reaches.items i no_reach

-- one more than the node's place on the side, and 0 where the side has not reached it
abbrev pub place_of : Side → ℕ → ℕ
place_of side v = slice_index side.places.items v

-- the way in which the path takes a step that leads on from the root: so on the side ahead, and turned on the side behind
abbrev pub toward : Bool → Bool → Bool
toward ahead forward = if ahead then forward else not forward

-- the path may take the step: not over the arc that is left out, and something is left on it
pub record IsOpen (net : NetworkValue) (flow : List ℕ) (aim : Aim) (a : ℕ) (forward : Bool) : Type 0 where
  pub others : a ≢ aim.avoid
  pub left : 0 < left_on (arc_at net a) (slice_index flow a) (toward aim.ahead forward)

-- each node of the side has its place, and no other node has one
pub record AreNumbered (net : NetworkValue) (side : Side) : Type 0 where
  pub long : length side.places.items ≡ net.nodes
  pub counted : count_below net.nodes (λ v. when (not (place_of side v == 0)) 1) ≡ length side.reaches.items
  pub nodes : (i : ℕ) → i < length side.reaches.items → (reach_at side i).node < net.nodes
  pub places : (i : ℕ) → i < length side.reaches.items → place_of side (reach_at side i).node ≡ i + 1
  pub reached : (v : ℕ) → 0 < place_of side v → (place_of side v ≤ length side.reaches.items) × ((reach_at side (place_of side v - 1)).node ≡ v)

-- the side has reached the node of a place by an open step from the node of an earlier place
pub record IsReach (net : NetworkValue) (flow : List ℕ) (aim : Aim) (side : Side) (i : ℕ) : Type 0 where
  pub from : (reach_at side i).from < i
  pub arc : (reach_at side i).step.arc < length net.arcs
  pub starts : start_of (arc_at net (reach_at side i).step.arc) (reach_at side i).step.forward ≡ (reach_at side (reach_at side i).from).node
  pub ends : end_of (arc_at net (reach_at side i).step.arc) (reach_at side i).step.forward ≡ (reach_at side i).node
  pub passes : IsOpen net flow aim (reach_at side i).step.arc (reach_at side i).step.forward

-- a root, and nodes that are reached from it
pub record IsSide (net : NetworkValue) (flow : List ℕ) (aim : Aim) (side : Side) : Type 0 where
  pub numbered : AreNumbered net side
  pub some : 0 < length side.reaches.items
  pub each : (i : ℕ) → 0 < i → i < length side.reaches.items → IsReach net flow aim side i

-- no node is reached
pub record IsBlank (net : NetworkValue) (side : Side) : Type 0 where
  pub none : side.reaches.items ≡ []
  pub long : length side.places.items ≡ net.nodes
  pub unplaced : (v : ℕ) → place_of side v ≡ 0

-- no node is on both sides
abbrev pub AreApart : Side → Side → Type 0
AreApart side other = (v : ℕ) → 0 < place_of side v → 0 < place_of other v → ⊥

-- the places that were there are the same
pub record IsGrown (old new : Side) : Type 0 where
  pub longer : length old.reaches.items ≤ length new.reaches.items
  pub kept : (i : ℕ) → i < length old.reaches.items → reach_at new i ≡ reach_at old i
  pub reached : (v : ℕ) → 0 < place_of old v → 0 < place_of new v

-- each open step from the node ends at a node of the side
abbrev pub IsScanned : NetworkValue → List ℕ → Aim → Side → ℕ → Type 0
IsScanned net flow aim side v =
    (a : ℕ) (forward : Bool) → a < length net.arcs → start_of (arc_at net a) forward ≡ v → IsOpen net flow aim a forward
    → 0 < place_of side (end_of (arc_at net a) forward)

-- so it is of each node of the side
abbrev pub IsEnded : NetworkValue → List ℕ → Aim → Side → Type 0
IsEnded net flow aim side = (v : ℕ) → 0 < place_of side v → IsScanned net flow aim side v

-- an open step from a place of the one side to a place of the other
pub record IsMeeting (net : NetworkValue) (flow : List ℕ) (aim : Aim) (side other : Side) (meeting : Meeting) : Type 0 where
  pub from : meeting.from < length side.reaches.items
  pub to : meeting.to < length other.reaches.items
  pub arc : meeting.step.arc < length net.arcs
  pub starts : start_of (arc_at net meeting.step.arc) meeting.step.forward ≡ (reach_at side meeting.from).node
  pub ends : end_of (arc_at net meeting.step.arc) meeting.step.forward ≡ (reach_at other meeting.to).node
  pub passes : IsOpen net flow aim meeting.step.arc meeting.step.forward
