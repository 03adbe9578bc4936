-- The places of chosen pairs, while steps are taken over their arcs.
use Rattle.std.specs.Prelude.{◌≢◌, ℕ, ◌<◌, ◌≤◌, List, length, slice_index, Contains}
use Rattle.match_rules.specs.Pieces.{DoAscend}
use Rattle.residual_arcs.specs.declared.step.Step.{Step}
use Rattle.unit_turns.specs.Steps.{step_at}

-- none of the steps from one on goes over the arc
abbrev pub AreOthers : List Step → ℕ → ℕ → Type 0
AreOthers steps first arc = (i : ℕ) → first ≤ i → i < length steps → (step_at steps i).arc ≢ arc

-- places that ascend, each of a pair. Of the pairs over whose arcs no steps from one on go, they are those that have a count.
pub record AreChosenBut (counts : List ℕ) (steps : List Step) (first : ℕ) (places : List ℕ) : Type 0 where
  pub ascend : DoAscend places
  pub known : (e : ℕ) → Contains places e → e < length counts
  pub all : (e : ℕ) → e < length counts → AreOthers steps first e → 1 ≤ slice_index counts e → Contains places e
  pub only : (e : ℕ) → Contains places e → AreOthers steps first e → 1 ≤ slice_index counts e

-- a place is there, and the others as they were
pub record IsTakenIn (old : List ℕ) (place : ℕ) (new : List ℕ) : Type 0 where
  pub ascend : DoAscend new
  pub here : Contains new place
  pub kept : (e : ℕ) → Contains old e → Contains new e
  pub only : (e : ℕ) → Contains new e → e ≢ place → Contains old e

-- a place isn't there, and the others are as they were
pub record IsTakenOut (old : List ℕ) (place : ℕ) (new : List ℕ) : Type 0 where
  pub ascend : DoAscend new
  pub gone : ¬ (Contains new place)
  pub kept : (e : ℕ) → Contains old e → e ≢ place → Contains new e
  pub only : (e : ℕ) → Contains new e → Contains old e
