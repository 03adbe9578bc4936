-- Networks, circulations, their costs, potentials, and the marks that show that there is no circulation.
use Rattle.std.specs.Prelude.{ℕ, ◌≡◌, ◌<◌, ◌≤◌, ◌==◌, ◌&&◌, not, Bool, false, List, length, slice_index, slice_index_or, slice_set, ℤ, pos, neg_ℤ, ◌+ℤ◌, ◌-ℤ◌, ◌*ℤ◌, ◌≤ℤ◌}
use Rattle.match_rules.specs.Sums.{sum_below, count_below, when}
use Rattle.bounded_network.specs.declared.network.Arc.{Arc}
use Rattle.bounded_network.specs.declared.network.TheConstants.{MAX_NODES, MAX_ARCS, MAX_ROOM, MAX_COST}

-- what a network holds
pub record NetworkValue : Type 0 where
  pub nodes : ℕ
  pub arcs : List Arc

-- an arc within the limits
pub record IsArc (nodes : ℕ) (arc : Arc) : Type 0 where
  pub tail : arc.tail < nodes
  pub head : arc.head < nodes
  pub floor : arc.floor ≤ arc.room
  pub room : arc.room ≤ MAX_ROOM
  pub cost_low : neg_ℤ MAX_COST ≤ℤ arc.cost
  pub cost_high : arc.cost ≤ℤ MAX_COST

abbrev pub no_arc : Arc
no_arc = record { tail = 0; head = 0; floor = 0; room = 0; cost = pos 0 }

-- the arc at a place
abbrev pub arc_at : NetworkValue → ℕ → Arc
arc_at net a = slice_index_or net.arcs a no_arc

-- the network with other bounds of the arc at a place
abbrev pub with_bounds : NetworkValue → ℕ → ℕ → ℕ → NetworkValue
with_bounds net a floor room = record net { arcs = slice_set net.arcs a (record (arc_at net a) { floor = floor; room = room }) }

-- a network within the limits
pub record IsNetwork (net : NetworkValue) : Type 0 where
  pub few_nodes : net.nodes ≤ MAX_NODES
  pub few_arcs : length net.arcs ≤ MAX_ARCS
  pub each : (a : ℕ) → a < length net.arcs → IsArc net.nodes (arc_at net a)

-- what enters the node
abbrev pub entering : NetworkValue → List ℕ → ℕ → ℕ
entering net flow v = count_below (length net.arcs) (λ a. when ((arc_at net a).head == v) (slice_index flow a))

-- what leaves the node
abbrev pub leaving : NetworkValue → List ℕ → ℕ → ℕ
leaving net flow v = count_below (length net.arcs) (λ a. when ((arc_at net a).tail == v) (slice_index flow a))

-- an amount for each arc, within its bounds, so that at each node as much enters as leaves
pub record IsCirculation (net : NetworkValue) (flow : List ℕ) : Type 0 where
  pub long : length flow ≡ length net.arcs
  pub floors : (a : ℕ) → a < length net.arcs → (arc_at net a).floor ≤ slice_index flow a
  pub rooms : (a : ℕ) → a < length net.arcs → slice_index flow a ≤ (arc_at net a).room
  pub balanced : (v : ℕ) → v < net.nodes → entering net flow v ≡ leaving net flow v

-- the sum of amount times cost
abbrev pub flow_cost : NetworkValue → List ℕ → ℤ
flow_cost net flow = sum_below (length net.arcs) (λ a. pos (slice_index flow a) *ℤ (arc_at net a).cost)

-- the potential of a node
abbrev pub potential_at : List ℤ → ℕ → ℤ
potential_at potentials v = slice_index_or potentials v (pos 0)

-- the cost of an arc, and the potential of its tail, less that of its head
abbrev pub reduced_cost : NetworkValue → List ℤ → ℕ → ℤ
reduced_cost net potentials a =
    ((arc_at net a).cost +ℤ potential_at potentials (arc_at net a).tail) -ℤ potential_at potentials (arc_at net a).head

-- no arc that may carry more has a negative reduced cost, and none that may carry less a positive one
pub record AreOptimal (net : NetworkValue) (flow : List ℕ) (potentials : List ℤ) : Type 0 where
  pub may_rise : (a : ℕ) → a < length net.arcs → slice_index flow a < (arc_at net a).room → pos 0 ≤ℤ reduced_cost net potentials a
  pub may_fall : (a : ℕ) → a < length net.arcs → (arc_at net a).floor < slice_index flow a → reduced_cost net potentials a ≤ℤ pos 0

-- no circulation costs less
abbrev pub IsCheapest : NetworkValue → List ℕ → Type 0
IsCheapest net flow = (other : List ℕ) → IsCirculation net other → flow_cost net flow ≤ℤ flow_cost net other

-- whether the node is marked
abbrev pub is_marked : List Bool → ℕ → Bool
is_marked marks v = slice_index_or marks v false

-- the floors that enter the marked nodes
abbrev pub floors_into : NetworkValue → List Bool → ℕ
floors_into net marks =
    count_below (length net.arcs) (λ a. when (is_marked marks (arc_at net a).head && not (is_marked marks (arc_at net a).tail)) (arc_at net a).floor)

-- the rooms that leave the marked nodes
abbrev pub rooms_out_of : NetworkValue → List Bool → ℕ
rooms_out_of net marks =
    count_below (length net.arcs) (λ a. when (is_marked marks (arc_at net a).tail && not (is_marked marks (arc_at net a).head)) (arc_at net a).room)

-- more has to enter the marked nodes than can leave them
abbrev pub AreViolated : NetworkValue → List Bool → Type 0
AreViolated net marks = rooms_out_of net marks < floors_into net marks
