-- Steps between a node of a side and its root.
use Rattle.std.specs.Prelude.{ℕ, ◌≡◌, ◌≢◌, ◌<◌, ◌≤◌, if◌then◌else◌, List, length}
use Rattle.bounded_network.specs.Network.{NetworkValue}
use Rattle.residual_arcs.specs.declared.step.Step.{Step}
use Rattle.unit_turns.specs.declared.side.Aim.{Aim}
use Rattle.unit_turns.specs.declared.side.Side.{Side}
use Rattle.unit_turns.specs.Side.{reach_at}
use Rattle.unit_turns.specs.Steps.{AreFree, Lead, step_at}

-- no step is over an arc by which the side has reached a node
abbrev pub AreAside : Side → List Step → Type 0
AreAside side steps = (k i : ℕ) → k < length steps → 0 < i → i < length side.reaches.items → (step_at steps k).arc ≢ (reach_at side i).step.arc

-- the steps that are added lead from the one place of the side to the other, or back where the side is behind
pub record HasPath (net : NetworkValue) (flow : List ℕ) (aim : Aim) (side : Side) (at place : ℕ) (old new : List Step) : Type 0 where
  pub longer : length old ≤ length new
  pub kept : (k : ℕ) → k < length old → step_at new k ≡ step_at old k
  pub fresh : (k : ℕ) → length old ≤ k → k < length new → (i : ℕ) × (at < i) × (i < length side.reaches.items) × ((step_at new k).arc ≡ (reach_at side i).step.arc)
  pub free : AreFree net flow new
  pub lead : Lead net old new
      (if aim.ahead then (reach_at side at).node else (reach_at side place).node) (if aim.ahead then (reach_at side place).node else (reach_at side at).node)
