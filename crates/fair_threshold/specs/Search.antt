-- What the search for the level knows.
use Rattle.std.specs.Prelude.{◌≡◌, ◌<◌, ◌≤◌, ℕ, List, length, map, slice_index, false, Option, None, Some, ℤ, pos, ◌≤ℤ◌}
use Rattle.std.specs.Int.{int_min}
use Rattle.match_rules.specs.declared.answer.Cut.{Cut}
use Rattle.match_rules.specs.declared.answer.Sieve.{Sieve}
use Rattle.match_rules.specs.declared.answer.Sieve.TheVariants.{All as EveryPair, AtLeast, Above}
use Rattle.match_rules.specs.Answers.{CutMatches}
use Rattle.match_rules.specs.Evidence.{Violated}
use Rattle.match_rules.specs.Rules.{RulesValue, is_locked, most_score, pair_at}
use Rattle.match_rules.specs.SharesFit.{SharesFit}
use Rattle.match_rules.specs.Thresholds.{IsOpenScore}
use Rattle.bounded_network.specs.declared.network.Arc.{Arc}
use Rattle.bounded_network.specs.Network.{NetworkValue}
use Rattle.fair_threshold.specs.declared.descent.Ceiling.{Ceiling}
use Rattle.fair_threshold.specs.declared.descent.Start.{Start}
use Rattle.fair_threshold.specs.declared.descent.Start.TheVariants.{Between, Nowhere}
use Rattle.fair_threshold.specs.declared.descent.Step.{Step}
use Rattle.fair_threshold.specs.declared.descent.Step.TheVariants.{Met, Lower, Stuck}
use Rattle.fair_threshold.specs.declared.probing.Probe.{Probe}
use Rattle.fair_threshold.specs.declared.probing.Probe.TheVariants.{Fits, Barred}
use Rattle.fair_threshold.specs.declared.narrowing.Range.{Range}

-- an arc at no cost
abbrev pub unpriced : Arc → Arc
unpriced arc = record { tail = arc.tail; head = arc.head; floor = arc.floor; room = arc.room; cost = pos 0 }

-- the same network at no cost
pub record IsUnpriced (net free : NetworkValue) : Type 0 where
  pub nodes : free.nodes ≡ net.nodes
  pub arcs : free.arcs ≡ map unpriced net.arcs

-- no shares fit
abbrev pub NoShares : RulesValue → Sieve → Type 0
NoShares rules sieve = (shares : List ℕ) → ¬ (SharesFit rules sieve shares)

-- a cut that is violated under a sieve, so that no shares fit
pub record IsBarred (rules : RulesValue) (sieve : Sieve) (cut : Cut) : Type 0 where
  pub known : CutMatches rules cut
  pub violated : Violated rules sieve cut
  pub none : NoShares rules sieve

-- shares that fit under a sieve, or a cut that is violated
abbrev pub IsProbe : RulesValue → Sieve → Probe → Type 0
IsProbe rules sieve (Fits shares) = SharesFit rules sieve shares
IsProbe rules sieve (Barred cut) = IsBarred rules sieve cut

-- a pair that isn't locked and has a share
pub record IsUsed (rules : RulesValue) (shares : List ℕ) (e : ℕ) : Type 0 where
  pub free : is_locked rules e ≡ false
  pub some : 1 ≤ slice_index shares e

-- the score of such a pair
abbrev pub IsUsedScore : RulesValue → List ℕ → ℤ → Type 0
IsUsedScore rules shares score = (e : ℕ) × ((e < length rules.pairs) × (IsUsed rules shares e × ((pair_at rules e).score ≡ score)))

-- the lower one of a score and one that may be missing
abbrev pub lower_of : Option ℤ → ℤ → ℤ
lower_of None score = score
lower_of (Some least) score = int_min least score

-- the least score of these pairs below a place, if there are some
abbrev pub IsLeastBelow : RulesValue → List ℕ → ℕ → Option ℤ → Type 0
IsLeastBelow rules shares n None = (e : ℕ) → e < n → ¬ (IsUsed rules shares e)
IsLeastBelow rules shares n (Some least) = IsUsedScore rules shares least × ((e : ℕ) → e < n → IsUsed rules shares e → least ≤ℤ (pair_at rules e).score)

-- the level is from the low score, with which shares fit, to the high one, above which a cut is violated
pub record IsRange (rules : RulesValue) (range : Range) : Type 0 where
  pub of_pair : IsOpenScore rules range.low
  pub fit : SharesFit rules (AtLeast range.low) range.shares
  pub known : CutMatches rules range.cut
  pub above : Violated rules (Above range.high) range.cut

-- a cut is violated above a score that is within the limit
pub record IsCeiling (rules : RulesValue) (ceiling : Ceiling) : Type 0 where
  pub known : CutMatches rules ceiling.cut
  pub low : ceiling.high ≤ℤ pos most_score
  pub above : Violated rules (Above ceiling.high) ceiling.cut

-- a range of the level, or a further ceiling
abbrev pub IsStep : RulesValue → Step → Type 0
IsStep rules (Met range) = IsRange rules range
IsStep rules (Lower ceiling) = IsCeiling rules ceiling
IsStep rules (Stuck ceiling) = IsCeiling rules ceiling

-- a range of the level, or a cut that is violated with all pairs
abbrev pub IsStart : RulesValue → Start → Type 0
IsStart rules (Between range) = IsRange rules range
IsStart rules (Nowhere cut) = IsBarred rules EveryPair cut
