-- A blocking pass: what is kept, so that each step is safe.
use Rattle.std.specs.Prelude.{ℕ, ◌≡◌, ◌+◌, ◌<◌, length, slice_index, pos, All}
use Rattle.bounded_network.specs.Network.{NetworkValue, arc_at}
use Rattle.residual_arcs.specs.declared.links.Link.{Link}
use Rattle.residual_arcs.specs.Step.{left_on}
use Rattle.flow_solver.specs.declared.state.State.{State}
use Rattle.flow_solver.specs.Links.{reduced_over}
use Rattle.flow_solver.specs.declared.levels.Levels.{Levels}
use Rattle.flow_solver.specs.declared.blocking.WalkStep.{WalkStep}
use Rattle.flow_solver.specs.declared.blocking.Walk.{Walk}

-- a level for each node, and nodes that are reached
pub record AreLevels (net : NetworkValue) (levels : Levels) : Type 0 where
  pub long : length levels.each.items ≡ net.nodes
  pub reached : All (λ v. v < net.nodes) levels.reached.items

-- a walk can go on over the node's link: it can carry more, and its reduced cost is 0
pub record Descends (state : State) (node : ℕ) (link : Link) : Type 0 where
  pub tight : reduced_over state.potentials.items node link ≡ pos 0
  pub left : 0 < left_on (arc_at state.network.now link.step.arc) (slice_index state.flow.items link.step.arc) link.step.forward

-- it names a node and an arc
pub record IsWalkStep (net : NetworkValue) (step : WalkStep) : Type 0 where
  pub node : step.node < net.nodes
  pub arc : step.step.arc < length net.arcs

-- a level and a next link for each node, and steps
pub record IsWalk (net : NetworkValue) (walk : Walk) : Type 0 where
  pub levels_long : length walk.levels.items ≡ net.nodes
  pub next_long : length walk.next.items ≡ net.nodes + 1
  pub steps : All (λ step. IsWalkStep net step) walk.steps.items
