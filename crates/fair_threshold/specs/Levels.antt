-- The level of rules in the fair mode: as shares and cuts show it before a lottery is made, and as a threshold.
use Rattle.std.specs.Prelude.{◌≡◌, List, ℕ, ℤ}
use Rattle.match_rules.specs.declared.answer.Cut.{Cut}
use Rattle.match_rules.specs.declared.answer.Sieve.TheVariants.{All as EveryPair, AtLeast, Above}
use Rattle.match_rules.specs.Answers.{CutMatches}
use Rattle.match_rules.specs.Evidence.{Violated}
use Rattle.match_rules.specs.Rules.{RulesValue}
use Rattle.match_rules.specs.SharesFit.{SharesFit}
use Rattle.match_rules.specs.Thresholds.{CanFitLocked, IsOpenScore, IsThreshold}
use Rattle.fair_threshold.specs.declared.found.FoundLevel.{FoundLevel}
use Rattle.fair_threshold.specs.declared.found.FoundLevel.TheVariants as level
use Rattle.fair_threshold.specs.declared.found.Threshold.{Threshold}
use Rattle.fair_threshold.specs.declared.found.Threshold.TheVariants as threshold

-- the locked pairs alone don't suffice; shares fit with the score of a pair that isn't locked and greater ones, and a cut
-- is violated with greater ones alone
pub record IsLevelAt (rules : RulesValue) (score : ℤ) (shares : List ℕ) (cut : Cut) : Type 0 where
  pub asked : ¬ (CanFitLocked rules)
  pub of_pair : IsOpenScore rules score
  pub fit : SharesFit rules (AtLeast score) shares
  pub known : CutMatches rules cut
  pub above : Violated rules (Above score) cut

-- a cut that is violated with all pairs
pub record IsBar (rules : RulesValue) (cut : Cut) : Type 0 where
  pub known : CutMatches rules cut
  pub violated : Violated rules EveryPair cut

-- the level that shares and cuts show
abbrev pub IsLevelOf : RulesValue → FoundLevel → Type 0
IsLevelOf rules level.Free = CanFitLocked rules
IsLevelOf rules (level.At score shares cut) = IsLevelAt rules score shares cut
IsLevelOf rules (level.NoneFits cut) = IsBar rules cut

-- a fact of the score, where there is one
abbrev pub IfScore : FoundLevel → (ℤ → Type 0) → Type 0
IfScore level.Free P = Unit {0}
IfScore (level.At score shares cut) P = P score
IfScore (level.NoneFits cut) P = Unit {0}

abbrev pub IsFreeLevel : FoundLevel → Type 0
IsFreeLevel level.Free = Unit {0}
IsFreeLevel (level.At score shares cut) = ⊥
IsFreeLevel (level.NoneFits cut) = ⊥

abbrev pub IsNoLevel : FoundLevel → Type 0
IsNoLevel level.Free = ⊥
IsNoLevel (level.At score shares cut) = ⊥
IsNoLevel (level.NoneFits cut) = Unit {0}

-- the threshold, with a cut that is violated above its score
pub record IsThresholdAt (rules : RulesValue) (score : ℤ) (cut : Cut) : Type 0 where
  pub threshold : IsThreshold rules score
  pub known : CutMatches rules cut
  pub above : Violated rules (Above score) cut

-- the threshold of rules
abbrev pub IsThresholdOf : RulesValue → Threshold → Type 0
IsThresholdOf rules threshold.Free = CanFitLocked rules
IsThresholdOf rules (threshold.At score cut) = IsThresholdAt rules score cut
IsThresholdOf rules (threshold.NoneFits cut) = IsBar rules cut

abbrev pub IsFree : Threshold → Type 0
IsFree threshold.Free = Unit {0}
IsFree (threshold.At score cut) = ⊥
IsFree (threshold.NoneFits cut) = ⊥

abbrev pub IsAt : Threshold → Type 0
IsAt threshold.Free = ⊥
IsAt (threshold.At score cut) = Unit {0}
IsAt (threshold.NoneFits cut) = ⊥

abbrev pub IsNoneFits : Threshold → Type 0
IsNoneFits threshold.Free = ⊥
IsNoneFits (threshold.At score cut) = ⊥
IsNoneFits (threshold.NoneFits cut) = Unit {0}

-- the threshold is at a score
abbrev pub IsAtScore : Threshold → ℤ → Type 0
IsAtScore threshold.Free score = ⊥
IsAtScore (threshold.At found cut) score = found ≡ score
IsAtScore (threshold.NoneFits cut) score = ⊥
