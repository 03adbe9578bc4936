-- The search for the nearest node with a deficit, by reduced costs.
use Rattle.std.specs.Prelude.{ℕ, ◌≡◌, ◌≢◌, ◌-◌, ◌*◌, ◌<◌, ◌≤◌, ◌⊎◌, Bool, true, false, List, [], length, slice_index, slice_index_or, ℤ, pos, ◌+ℤ◌, ◌≤ℤ◌, ◌<ℤ◌}
use Rattle.std.specs.BinaryHeap.{heap_items}
use Rattle.std.specs.declared.cmp.Reverse.{Reverse}
use Rattle.match_rules.specs.Sums.{count_below, when}
use Rattle.bounded_network.specs.Network.{NetworkValue, arc_at, potential_at}
use Rattle.flow_solver.specs.declared.state.State.{State}
use Rattle.flow_solver.specs.declared.search.Reach.{Reach}
use Rattle.flow_solver.specs.declared.search.Search.{Search}
use Rattle.flow_solver.specs.Queue.{Waits}
use Rattle.flow_solver.specs.State.{excess_at, most_cost}
use Rattle.residual_arcs.specs.Closed.{AreClosed}
use Rattle.residual_arcs.specs.Step.{start_of, end_of, left_on}
use Rattle.flow_solver.specs.Step.{step_reduced}

-- the distance of a node that is not reached
abbrev pub unreached : ℕ
unreached = 18446744073709551615

abbrev pub distance_at : List ℕ → ℕ → ℕ
distance_at distances v = slice_index distances v

abbrev pub no_reach : Reach
no_reach = record { node = 0; from = 0; step = record { arc = 0; forward = false }; width = 0 }

abbrev pub reach_at : List Reach → ℕ → Reach
reach_at reaches i = slice_index_or reaches i no_reach

abbrev pub is_settled : List Bool → ℕ → Bool
is_settled settled v = slice_index_or settled v false

-- a node's distance measured from potentials of 0
abbrev pub height_at : State → List ℕ → ℕ → ℤ
height_at state distances v = potential_at state.potentials.items v +ℤ pos (distance_at distances v)

-- how a node is reached: by a step from a place of the tree below the limit, that can carry the width
pub record IsReach (state : State) (tree : List Reach) (distances : List ℕ) (limit : ℕ) (reach : Reach) (v : ℕ) : Type 0 where
  pub node : reach.node ≡ v
  pub from : reach.from < limit
  pub arc : reach.step.arc < length state.network.now.arcs
  pub starts : start_of (arc_at state.network.now reach.step.arc) reach.step.forward ≡ (reach_at tree reach.from).node
  pub ends : end_of (arc_at state.network.now reach.step.arc) reach.step.forward ≡ v
  pub distance : pos (distance_at distances v) ≡ pos (distance_at distances (reach_at tree reach.from).node) +ℤ step_reduced (arc_at state.network.now reach.step.arc) reach.step.forward state.potentials.items
  pub some : 0 < reach.width
  pub left : reach.width ≤ left_on (arc_at state.network.now reach.step.arc) (slice_index state.flow.items reach.step.arc) reach.step.forward
  pub narrow : reach.width ≤ (reach_at tree reach.from).width

-- if the step over the arc starts at the node and has room, its end is no further than by way of the step
abbrev pub IsRelaxed : State → List ℕ → ℕ → ℕ → Bool → Type 0
IsRelaxed state distances v a forward =
    start_of (arc_at state.network.now a) forward ≡ v → 0 < left_on (arc_at state.network.now a) (slice_index state.flow.items a) forward
    → pos (distance_at distances (end_of (arc_at state.network.now a) forward)) ≤ℤ (pos (distance_at distances v) +ℤ step_reduced (arc_at state.network.now a) forward state.potentials.items)

-- so it is over each arc
abbrev pub IsRelaxedFrom : State → List ℕ → ℕ → Type 0
IsRelaxedFrom state distances v = (a : ℕ) (forward : Bool) → a < length state.network.now.arcs → IsRelaxed state distances v a forward

-- the tree of the settled nodes
pub record IsTree (state : State) (source : ℕ) (tree : List Reach) (distances : List ℕ) (settled : List Bool) : Type 0 where
  pub settled_long : length settled ≡ state.network.now.nodes
  pub counted : count_below state.network.now.nodes (λ v. when (is_settled settled v) 1) ≡ length tree
  pub some : 0 < length tree
  pub root : (reach_at tree 0).node ≡ source
  pub root_distance : distance_at distances source ≡ 0
  pub root_width : pos (reach_at tree 0).width ≤ℤ excess_at state.excess.items source
  pub root_some : 0 < (reach_at tree 0).width
  pub nodes : (i : ℕ) → i < length tree → (reach_at tree i).node < state.network.now.nodes
  pub are_settled : (i : ℕ) → i < length tree → is_settled settled (reach_at tree i).node ≡ true
  pub places : (v : ℕ) → is_settled settled v ≡ true → (i : ℕ) × (i < length tree) × ((reach_at tree i).node ≡ v)
  pub separate : (i j : ℕ) → i < j → j < length tree → (reach_at tree i).node ≢ (reach_at tree j).node
  pub reaches : (i : ℕ) → 0 < i → i < length tree → IsReach state tree distances i (reach_at tree i) (reach_at tree i).node
  pub apart : (i j : ℕ) → 0 < i → i < j → j < length tree → (reach_at tree i).step.arc ≢ (reach_at tree j).step.arc
  pub near : (u v : ℕ) → is_settled settled u ≡ true → is_settled settled v ≡ true → height_at state distances u ≤ℤ (height_at state distances v +ℤ pos (most_cost * (length tree - 1)))

-- the search after the node was settled, and before all its steps are relaxed
pub record IsSearchOf (state : State) (source node : ℕ) (tree reaches : List Reach) (distances : List ℕ) (settled : List Bool) (waiting : List (Reverse ℕ × ℕ)) : Type 0 where
  pub is_tree : IsTree state source tree distances settled
  pub distances_long : length distances ≡ state.network.now.nodes
  pub reaches_long : length reaches ≡ state.network.now.nodes
  pub node_in : node < state.network.now.nodes
  pub node_settled : is_settled settled node ≡ true
  pub node_last : (reach_at tree (length tree - 1)).node ≡ node
  pub candidates : (v : ℕ) → v < state.network.now.nodes → is_settled settled v ≡ false → distance_at distances v < unreached → IsReach state tree distances (length tree) (reach_at reaches v) v
  pub nearer : (v : ℕ) → is_settled settled v ≡ true → distance_at distances v ≤ distance_at distances node
  pub further : (v : ℕ) → v < state.network.now.nodes → is_settled settled v ≡ false → distance_at distances node ≤ distance_at distances v
  pub queued : (d v : ℕ) → Waits waiting d v → (v < state.network.now.nodes) × (distance_at distances v ≤ d) × (d < unreached)
  pub waits : (v : ℕ) → v < state.network.now.nodes → is_settled settled v ≡ false → distance_at distances v < unreached → Waits waiting (distance_at distances v) v
  pub relaxed : (v : ℕ) → is_settled settled v ≡ true → v ≢ node → IsRelaxedFrom state distances v
  pub calm : (v : ℕ) → is_settled settled v ≡ true → v ≢ node → pos 0 ≤ℤ excess_at state.excess.items v

abbrev pub IsSearch : State → Search → Type 0
IsSearch state search =
    IsSearchOf state search.source search.node search.tree.items search.reaches.items search.distances.items search.settled.items (heap_items search.queue.waiting)

-- the settled nodes and their tree are the same
pub record SameTree (old new : Search) : Type 0 where
  pub source : new.source ≡ old.source
  pub node : new.node ≡ old.node
  pub tree : new.tree.items ≡ old.tree.items
  pub settled : new.settled.items ≡ old.settled.items

-- the search went on from the node that was settled last: its tree is the same, and no distance rose
pub record Relaxes (state : State) (old new : Search) : Type 0 where
  pub same : SameTree old new
  pub search : IsSearch state new
  pub lower : (v : ℕ) → distance_at new.distances.items v ≤ distance_at old.distances.items v
  pub stays : distance_at new.distances.items old.node ≡ distance_at old.distances.items old.node

-- a node with a deficit was settled last
pub record IsFound (state : State) (search : Search) : Type 0 where
  pub search_kept : IsSearch state search
  pub deficit : excess_at state.excess.items search.node <ℤ pos 0

-- no step with room leaves the settled nodes, and none of them has a deficit
pub record IsClosed (state : State) (source : ℕ) (settled : List Bool) : Type 0 where
  pub long : length settled ≡ state.network.now.nodes
  pub source_settled : is_settled settled source ≡ true
  pub calm : (v : ℕ) → is_settled settled v ≡ true → pos 0 ≤ℤ excess_at state.excess.items v
  pub closed : AreClosed state.network.now state.flow.items settled

-- the node is neither reached nor settled
pub record IsCleared (distances : List ℕ) (settled : List Bool) (v : ℕ) : Type 0 where
  pub far : unreached ≤ distance_at distances v
  pub unsettled : is_settled settled v ≡ false

-- a search that has not begun
pub record IsBlank (net : NetworkValue) (search : Search) : Type 0 where
  pub distances_long : length search.distances.items ≡ net.nodes
  pub reaches_long : length search.reaches.items ≡ net.nodes
  pub settled_long : length search.settled.items ≡ net.nodes
  pub tree : search.tree.items ≡ []
  pub cleared : (v : ℕ) → v < net.nodes → IsCleared search.distances.items search.settled.items v
  pub waiting : (d v : ℕ) → Waits (heap_items search.queue.waiting) d v → ⊥

-- every node that is reached stands in the tree or waits
pub record IsClearable (net : NetworkValue) (search : Search) : Type 0 where
  pub distances_long : length search.distances.items ≡ net.nodes
  pub reaches_long : length search.reaches.items ≡ net.nodes
  pub settled_long : length search.settled.items ≡ net.nodes
  pub nodes : (i : ℕ) → i < length search.tree.items → (reach_at search.tree.items i).node < net.nodes
  pub queued : (d v : ℕ) → Waits (heap_items search.queue.waiting) d v → v < net.nodes
  pub covered : (v : ℕ) → v < net.nodes → IsCleared search.distances.items search.settled.items v
      ⊎ (((i : ℕ) × (i < length search.tree.items) × ((reach_at search.tree.items i).node ≡ v)) ⊎ ((d : ℕ) × Waits (heap_items search.queue.waiting) d v))
