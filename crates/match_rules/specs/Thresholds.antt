-- The greatest feasible score threshold, with locked pairs exempt.
use Rattle.std.specs.Prelude.{◌≡◌, ℕ, ◌<◌, false, List, length, ℤ, ◌<ℤ◌}
use Rattle.match_rules.specs.declared.lottery.Piece.{Piece}
use Rattle.match_rules.specs.declared.answer.Level.{Level}
use Rattle.match_rules.specs.declared.answer.Level.TheVariants.{Unasked, Free, At}
use Rattle.match_rules.specs.declared.answer.Sieve.{Sieve}
use Rattle.match_rules.specs.declared.answer.Sieve.TheVariants.{All as EveryPair, AtLeast}
use Rattle.match_rules.specs.Rules.{RulesValue, pair_at, is_locked}
use Rattle.match_rules.specs.Assignments.{Fits, times}

-- some lottery fits the kept rules
abbrev pub CanFit : RulesValue → Sieve → Type 0
CanFit rules sieve = (lottery : List Piece) × Fits rules sieve lottery

-- a lottery that fits and holds locked pairs alone
pub record FitsLocked (rules : RulesValue) (lottery : List Piece) : Type 0 where
  pub fits : Fits rules EveryPair lottery
  pub alone : (e : ℕ) → e < length rules.pairs → is_locked rules e ≡ false → times lottery e ≡ 0

-- some lottery fits with the locked pairs alone
abbrev pub CanFitLocked : RulesValue → Type 0
CanFitLocked rules = (lottery : List Piece) × FitsLocked rules lottery

-- the score is that of a pair that isn't locked
abbrev pub IsOpenScore : RulesValue → ℤ → Type 0
IsOpenScore rules score = (e : ℕ) × ((e < length rules.pairs) × ((is_locked rules e ≡ false) × ((pair_at rules e).score ≡ score)))

-- the greatest score of a pair that isn't locked such that something fits with this score and greater ones
pub record IsThreshold (rules : RulesValue) (score : ℤ) : Type 0 where
  pub asked : ¬ (CanFitLocked rules)
  pub of_pair : IsOpenScore rules score
  pub feasible : CanFit rules (AtLeast score)
  pub greatest : (other : ℤ) → IsOpenScore rules other → score <ℤ other → ¬ (CanFit rules (AtLeast other))

-- the level of an answer in the fair mode is that of the rules
abbrev pub HasLevel : RulesValue → Level → Type 0
HasLevel rules Unasked = ⊥
HasLevel rules Free = CanFitLocked rules
HasLevel rules (At score cut) = IsThreshold rules score

-- the sieve of a level
abbrev pub sieve_of : Level → Sieve
sieve_of Unasked = EveryPair
sieve_of Free = EveryPair
sieve_of (At score cut) = AtLeast score
