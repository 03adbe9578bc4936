-- The steps that leave each node, over the arcs that have a choice.
use Rattle.std.specs.Prelude.{ℕ, ◌≡◌, ◌+◌, ◌<◌, ◌≤◌, false, List, length, slice_index, slice_index_or, All, pos}
use Rattle.bounded_network.specs.Network.{NetworkValue, arc_at}
use Rattle.bounded_network.specs.declared.network.Arc.{Arc}
use Rattle.residual_arcs.specs.declared.step.Step.{Step}
use Rattle.residual_arcs.specs.declared.links.Link.{Link}
use Rattle.residual_arcs.specs.declared.links.Links.{Links}
use Rattle.residual_arcs.specs.Step.{start_of, end_of, step_cost}

-- the arc may carry more than one amount
abbrev pub HasChoice : Arc → Type 0
HasChoice arc = arc.floor < arc.room

abbrev pub no_link : Link
no_link = record { step = record { arc = 0; forward = false }; to = 0; cost = pos 0 }

abbrev pub link_at : List Link → ℕ → Link
link_at links i = slice_index_or links i no_link

-- a step over an arc that has a choice, with its end and its cost
pub record IsLink (net : NetworkValue) (link : Link) : Type 0 where
  pub arc : link.step.arc < length net.arcs
  pub choice : HasChoice (arc_at net link.step.arc)
  pub ends : link.to ≡ end_of (arc_at net link.step.arc) link.step.forward
  pub cost : link.cost ≡ step_cost (arc_at net link.step.arc) link.step.forward

-- where its step starts
abbrev pub start_at : NetworkValue → Link → ℕ
start_at net link = start_of (arc_at net link.step.arc) link.step.forward

-- the links of the node stand from its start to the start of the next one: all leave it, and every step that does is there
pub record AreLinks (net : NetworkValue) (links : Links) : Type 0 where
  pub each : All (λ link. IsLink net link) links.all.items
  pub starts_long : length links.starts.items ≡ net.nodes + 1
  pub within : (v : ℕ) → slice_index links.starts.items v ≤ length links.all.items
  pub leave : (v i : ℕ) → v < net.nodes → slice_index links.starts.items v ≤ i → i < slice_index links.starts.items (v + 1) → start_at net (link_at links.all.items i) ≡ v
  pub whole : (step : Step) → step.arc < length net.arcs → HasChoice (arc_at net step.arc)
      → (i : ℕ) × (slice_index links.starts.items (start_of (arc_at net step.arc) step.forward) ≤ i) × (i < slice_index links.starts.items (start_of (arc_at net step.arc) step.forward + 1)) × ((link_at links.all.items i).step ≡ step)
