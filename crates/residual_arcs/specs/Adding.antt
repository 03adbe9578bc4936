-- Links of one node that are added behind others.
use Rattle.std.specs.Prelude.{ℕ, ◌≡◌, ◌<◌, ◌≤◌, List, length, All}
use Rattle.bounded_network.specs.Network.{NetworkValue, arc_at}
use Rattle.residual_arcs.specs.declared.step.Step.{Step}
use Rattle.residual_arcs.specs.declared.links.Link.{Link}
use Rattle.residual_arcs.specs.Step.{start_of}
use Rattle.residual_arcs.specs.Links.{HasChoice, IsLink, link_at, start_at}

-- the old links stay in front, and those behind them leave the node
pub record IsGrown (net : NetworkValue) (v : ℕ) (old new : List Link) : Type 0 where
  pub longer : length old ≤ length new
  pub kept : (i : ℕ) → i < length old → link_at new i ≡ link_at old i
  pub each : All (λ link. IsLink net link) old → All (λ link. IsLink net link) new
  pub fresh : (i : ℕ) → length old ≤ i → i < length new → start_at net (link_at new i) ≡ v

-- the step stands among the links, from a place on
abbrev pub StandsFrom : List Link → ℕ → Step → Type 0
StandsFrom links first step = (i : ℕ) × (first ≤ i) × (i < length links) × ((link_at links i).step ≡ step)

-- the step is added, if it leaves the node over an arc that has a choice
pub record Adds (net : NetworkValue) (v : ℕ) (step : Step) (old new : List Link) : Type 0 where
  pub grown : IsGrown net v old new
  pub here : HasChoice (arc_at net step.arc) → start_of (arc_at net step.arc) step.forward ≡ v → StandsFrom new (length old) step

-- all steps are added that leave the node over an arc from the bound on that has a choice
pub record AddsFrom (net : NetworkValue) (v bound : ℕ) (old new : List Link) : Type 0 where
  pub grown : IsGrown net v old new
  pub whole : (step : Step) → step.arc < length net.arcs → bound ≤ step.arc → HasChoice (arc_at net step.arc) → start_of (arc_at net step.arc) step.forward ≡ v
      → StandsFrom new (length old) step
