-- A path along the tree, from its root to its last node.
use Rattle.std.specs.Prelude.{ℕ, ◌≡◌, ◌≢◌, ◌-◌, ◌<◌, ◌≤◌, List, length, slice_index, pos}
use Rattle.bounded_network.specs.Network.{arc_at}
use Rattle.flow_solver.specs.declared.state.State.{State}
use Rattle.flow_solver.specs.declared.search.Reach.{Reach}
use Rattle.flow_solver.specs.Search.{reach_at}
use Rattle.residual_arcs.specs.Step.{start_of, end_of, left_on}
use Rattle.flow_solver.specs.Step.{step_reduced}

-- every step of the tree has reduced cost 0, no two take one arc, and the path to the last node can carry the amount
pub record IsPath (state : State) (tree : List Reach) (amount : ℕ) : Type 0 where
  pub some : 0 < length tree
  pub wide : amount ≤ (reach_at tree (length tree - 1)).width
  pub froms : (i : ℕ) → 0 < i → i < length tree → (reach_at tree i).from < i
  pub arcs : (i : ℕ) → 0 < i → i < length tree → (reach_at tree i).step.arc < length state.network.now.arcs
  pub tight : (i : ℕ) → 0 < i → i < length tree → step_reduced (arc_at state.network.now (reach_at tree i).step.arc) (reach_at tree i).step.forward state.potentials.items ≡ pos 0
  pub starts : (i : ℕ) → 0 < i → i < length tree → start_of (arc_at state.network.now (reach_at tree i).step.arc) (reach_at tree i).step.forward ≡ (reach_at tree (reach_at tree i).from).node
  pub ends : (i : ℕ) → 0 < i → i < length tree → end_of (arc_at state.network.now (reach_at tree i).step.arc) (reach_at tree i).step.forward ≡ (reach_at tree i).node
  pub left : (i : ℕ) → 0 < i → i < length tree → (reach_at tree i).width ≤ left_on (arc_at state.network.now (reach_at tree i).step.arc) (slice_index state.flow.items (reach_at tree i).step.arc) (reach_at tree i).step.forward
  pub narrow : (i : ℕ) → 0 < i → i < length tree → (reach_at tree i).width ≤ (reach_at tree (reach_at tree i).from).width
  pub apart : (i j : ℕ) → 0 < i → i < j → j < length tree → (reach_at tree i).step.arc ≢ (reach_at tree j).step.arc
