-- Steps that a unit takes.
use Rattle.std.specs.Prelude.{ℕ, ◌≡◌, ◌≢◌, ◌+◌, ◌<◌, ◌==◌, false, List, length, slice_index, slice_index_or}
use Rattle.match_rules.specs.Sums.{count_below, when}
use Rattle.bounded_network.specs.Network.{NetworkValue, arc_at}
use Rattle.residual_arcs.specs.declared.step.Step.{Step}
use Rattle.residual_arcs.specs.Step.{start_of, end_of, left_on, carried}

abbrev pub no_step : Step
no_step = record { arc = 0; forward = false }

abbrev pub step_at : List Step → ℕ → Step
step_at steps i = slice_index_or steps i no_step

-- the steps were taken, each over an arc of its own, and nothing else changed
pub record AreTaken (net : NetworkValue) (old new : List ℕ) (steps : List Step) : Type 0 where
  pub arcs : (i : ℕ) → i < length steps → (step_at steps i).arc < length net.arcs
  pub apart : (i j : ℕ) → i < j → j < length steps → (step_at steps i).arc ≢ (step_at steps j).arc
  pub moved : (i : ℕ) → i < length steps → slice_index new (step_at steps i).arc ≡ carried (slice_index old (step_at steps i).arc) (step_at steps i).forward 1
  pub stay : (a : ℕ) → ((i : ℕ) → i < length steps → (step_at steps i).arc ≢ a) → slice_index new a ≡ slice_index old a

-- each step is over an arc of its own, on which a unit is left
pub record AreFree (net : NetworkValue) (flow : List ℕ) (steps : List Step) : Type 0 where
  pub arcs : (i : ℕ) → i < length steps → (step_at steps i).arc < length net.arcs
  pub apart : (i j : ℕ) → i < j → j < length steps → (step_at steps i).arc ≢ (step_at steps j).arc
  pub left : (i : ℕ) → i < length steps → 0 < left_on (arc_at net (step_at steps i).arc) (slice_index flow (step_at steps i).arc) (step_at steps i).forward

-- how many of the first steps start, and how many end, at the node
abbrev pub starts_to : NetworkValue → List Step → ℕ → ℕ → ℕ
starts_to net steps count v = count_below count (λ i. when (start_of (arc_at net (step_at steps i).arc) (step_at steps i).forward == v) 1)

abbrev pub ends_to : NetworkValue → List Step → ℕ → ℕ → ℕ
ends_to net steps count v = count_below count (λ i. when (end_of (arc_at net (step_at steps i).arc) (step_at steps i).forward == v) 1)

-- the steps that were added lead from one node to another: at each node else as many of them start as end
abbrev pub Lead : NetworkValue → List Step → List Step → ℕ → ℕ → Type 0
Lead net old new from to = (v : ℕ) →
    starts_to net new (length new) v + (ends_to net old (length old) v + when (to == v) 1)
    ≡ ends_to net new (length new) v + (starts_to net old (length old) v + when (from == v) 1)

-- they lead from a node back to it
abbrev pub AreRound : NetworkValue → List Step → Type 0
AreRound net steps = (v : ℕ) → starts_to net steps (length steps) v ≡ ends_to net steps (length steps) v

-- a way round: it begins with the step
pub record IsWay (net : NetworkValue) (flow : List ℕ) (step : Step) (steps : List Step) : Type 0 where
  pub free : AreFree net flow steps
  pub round : AreRound net steps
  pub some : 0 < length steps
  pub first : step_at steps 0 ≡ step
