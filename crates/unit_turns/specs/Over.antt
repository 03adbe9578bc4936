-- Links that serve a network, also once its bounds have become narrower.
use Rattle.std.specs.Prelude.{ℕ, ◌≡◌, ◌+◌, ◌<◌, ◌≤◌, length, slice_index}
use Rattle.bounded_network.specs.Network.{NetworkValue, arc_at}
use Rattle.residual_arcs.specs.declared.step.Step.{Step}
use Rattle.residual_arcs.specs.declared.links.Links.{Links}
use Rattle.residual_arcs.specs.Step.{start_of, end_of}
use Rattle.residual_arcs.specs.Links.{HasChoice, link_at, start_at}

-- the same arcs, each between bounds that are within the wider ones
pub record IsNarrower (wide net : NetworkValue) : Type 0 where
  pub nodes : net.nodes ≡ wide.nodes
  pub long : length net.arcs ≡ length wide.arcs
  pub tails : (a : ℕ) → a < length net.arcs → (arc_at net a).tail ≡ (arc_at wide a).tail
  pub heads : (a : ℕ) → a < length net.arcs → (arc_at net a).head ≡ (arc_at wide a).head
  pub floors : (a : ℕ) → a < length net.arcs → (arc_at wide a).floor ≤ (arc_at net a).floor
  pub rooms : (a : ℕ) → a < length net.arcs → (arc_at net a).room ≤ (arc_at wide a).room

-- The links of a node stand from its start to the start of the next one. All leave it, and every step over an arc that has
-- a choice is there. A link over an arc that has none may be there too.
pub record AreLinksOver (net : NetworkValue) (links : Links) : Type 0 where
  pub arcs : (i : ℕ) → i < length links.all.items → (link_at links.all.items i).step.arc < length net.arcs
  pub ends : (i : ℕ) → i < length links.all.items
      → (link_at links.all.items i).to ≡ end_of (arc_at net (link_at links.all.items i).step.arc) (link_at links.all.items i).step.forward
  pub starts_long : length links.starts.items ≡ net.nodes + 1
  pub within : (v : ℕ) → slice_index links.starts.items v ≤ length links.all.items
  pub leave : (v i : ℕ) → v < net.nodes → slice_index links.starts.items v ≤ i → i < slice_index links.starts.items (v + 1) → start_at net (link_at links.all.items i) ≡ v
  pub whole : (step : Step) → step.arc < length net.arcs → HasChoice (arc_at net step.arc)
      → (i : ℕ) × (slice_index links.starts.items (start_of (arc_at net step.arc) step.forward) ≤ i) × (i < slice_index links.starts.items (start_of (arc_at net step.arc) step.forward + 1)) × ((link_at links.all.items i).step ≡ step)
