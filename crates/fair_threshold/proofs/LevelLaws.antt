-- What cuts and shares say of thresholds.
use Rattle.std.proofs.Common.{◌≡◌, ◌↔◌, ℕ, ◌<◌, Bool, true, false, List, refl, subst, arith}
use Rattle.std.proofs.lemmas.Int.{ints}
use Rattle.std.specs.Prelude.{ℤ, pos, negsuc, ◌<ℤ◌, ◌≤ℤ◌, int_lt}
use Rattle.match_rules.specs.declared.answer.Cut.{Cut}
use Rattle.match_rules.specs.declared.answer.Sieve.{Sieve}
use Rattle.match_rules.specs.declared.answer.Sieve.TheVariants.{All as EveryPair, AtLeast, Above}
use Rattle.match_rules.specs.Answers.{CutMatches}
use Rattle.match_rules.specs.Evidence.{Violated}
use Rattle.match_rules.specs.Rules.{RulesValue, AreRules, most_score}
use Rattle.match_rules.specs.SharesFit.{SharesFit}
use Rattle.match_rules.specs.Thresholds.{CanFit, CanFitLocked, IsOpenScore, IsThreshold}
use Rattle.match_rules.proofs.SieveLaws.{finer-above, finer-every_pair, finer-greater, fits-more, fits-locked, shares_fit-more}
use Rattle.dual_check.proofs.CutLaws.{none_fits_at_violated}
use Rattle.fair_threshold.specs.declared.found.FoundLevel.{FoundLevel}
use Rattle.fair_threshold.specs.declared.found.FoundLevel.TheVariants as level
use Rattle.fair_threshold.specs.declared.found.Threshold.{Threshold}
use Rattle.fair_threshold.specs.declared.found.Threshold.TheVariants as threshold
use Rattle.fair_threshold.specs.Levels.{IfScore, IsAt, IsAtScore, IsFree, IsFreeLevel, IsLevelAt, IsLevelOf, IsNoneFits, IsThresholdOf}
use Rattle.fair_threshold.specs.declared.narrowing.Range.{Range}
use Rattle.fair_threshold.specs.declared.descent.Ceiling.{Ceiling}
use Rattle.fair_threshold.specs.Search.{IsCeiling, IsRange, NoShares}
use Rattle.fair_threshold.proofs.SieveLaws.{violated-finer}

-- a cut that is violated leaves no lottery
none-under : (rules : RulesValue) (sieve : Sieve) (cut : Cut) → AreRules rules → Violated rules sieve cut → ¬ (CanFit rules sieve)
none-under rules sieve cut are violated (lottery, fits) = none_fits_at_violated rules sieve cut are violated lottery fits

pub not-locked : (rules : RulesValue) (cut : Cut) → AreRules rules → Violated rules (Above (pos most_score)) cut → ¬ (CanFitLocked rules)
not-locked rules cut are violated (lottery, fits) =
    none_fits_at_violated rules (Above (pos most_score)) cut are violated lottery ((fits-locked rules lottery are).1 fits)

-- what fits with the locked pairs alone fits with all
locked-can : (rules : RulesValue) → CanFitLocked rules → CanFit rules EveryPair
locked-can rules (lottery, fits) = (lottery, fits.fits)

can-all : (rules : RulesValue) (sieve : Sieve) → CanFit rules sieve → CanFit rules EveryPair
can-all rules sieve (lottery, fits) = (lottery, fits-more rules sieve EveryPair lottery (finer-every_pair sieve) fits)

-- nothing fits with greater scores than one above which a cut is violated
pub none-greater : (rules : RulesValue) (score : ℤ) (cut : Cut) → AreRules rules → Violated rules (Above score) cut
    → (other : ℤ) → score <ℤ other → ¬ (CanFit rules (AtLeast other))
none-greater rules score cut are violated other less (lottery, fits) =
    none_fits_at_violated rules (Above score) cut are violated lottery (fits-more rules (AtLeast other) (Above score) lottery (finer-greater score other less) fits)

pub level-threshold : (rules : RulesValue) (score : ℤ) (shares : List ℕ) (cut : Cut) → AreRules rules → IsLevelAt rules score shares cut
    → CanFit rules (AtLeast score) → IsThreshold rules score
level-threshold rules score shares cut are at feasible = record {
  asked = at.asked;
  of_pair = at.of_pair;
  feasible = feasible;
  greatest = λ other of_pair less. none-greater rules score cut are at.above other less;
}

-- the clauses of a level
pub level-free : (rules : RulesValue) (found : FoundLevel) → AreRules rules → IsLevelOf rules found → IsFreeLevel found ↔ CanFitLocked rules
level-free rules level.Free are is = (λ free. is, λ can. tt)
level-free rules (level.At score shares cut) are is = (λ free. absurd free, λ can. is.asked can)
level-free rules (level.NoneFits cut) are is = (λ free. absurd free, λ can. none-under rules EveryPair cut are is.violated (locked-can rules can))

pub level-greatest : (rules : RulesValue) (found : FoundLevel) → AreRules rules → IsLevelOf rules found
    → IfScore found (λ score. (other : ℤ) → score <ℤ other → ¬ (CanFit rules (AtLeast other)))
level-greatest rules level.Free are is = tt
level-greatest rules (level.At score shares cut) are is = none-greater rules score cut are is.above
level-greatest rules (level.NoneFits cut) are is = tt

pub level-becomes : (rules : RulesValue) (found : FoundLevel) → AreRules rules → IsLevelOf rules found
    → IfScore found (λ score. CanFit rules (AtLeast score) → IsThreshold rules score)
level-becomes rules level.Free are is = tt
level-becomes rules (level.At score shares cut) are is = level-threshold rules score shares cut are is
level-becomes rules (level.NoneFits cut) are is = tt

-- a level that has shares says that some fit
pub level-none : (rules : RulesValue) (score : ℤ) (shares : List ℕ) (cut : Cut) → IsLevelAt rules score shares cut → ¬ (NoShares rules EveryPair)
level-none rules score shares cut at none = none shares (shares_fit-more rules (AtLeast score) EveryPair shares (finer-every_pair (AtLeast score)) at.fit)

-- a threshold is unique
pub threshold-unique : (rules : RulesValue) (a b : ℤ) → IsThreshold rules a → IsThreshold rules b → a ≡ b
threshold-unique rules a b one other = by (int_lt a b) refl (int_lt b a) refl
  where
    by : (s : Bool) → int_lt a b ≡ s → (t : Bool) → int_lt b a ≡ t → a ≡ b
    by true is t e = let less : a <ℤ b = omega (arith, ints) in absurd (one.greatest b other.of_pair less other.feasible)
    by false is true e = let less : b <ℤ a = omega (arith, ints) in absurd (other.greatest a one.of_pair less one.feasible)
    by false is false e = omega (arith, ints)

-- the clauses of a threshold
pub threshold-free : (rules : RulesValue) (found : Threshold) → AreRules rules → IsThresholdOf rules found → IsFree found ↔ CanFitLocked rules
threshold-free rules threshold.Free are is = (λ free. is, λ can. tt)
threshold-free rules (threshold.At score cut) are is = (λ free. absurd free, λ can. is.threshold.asked can)
threshold-free rules (threshold.NoneFits cut) are is = (λ free. absurd free, λ can. none-under rules EveryPair cut are is.violated (locked-can rules can))

pub threshold-at : (rules : RulesValue) (found : Threshold) → AreRules rules → IsThresholdOf rules found
    → IsAt found ↔ ((¬ (CanFitLocked rules)) × CanFit rules EveryPair)
threshold-at rules threshold.Free are is = (λ at. absurd at, λ both. both.0 is)
threshold-at rules (threshold.At score cut) are is = (λ at. (is.threshold.asked, can-all rules (AtLeast score) is.threshold.feasible), λ both. tt)
threshold-at rules (threshold.NoneFits cut) are is = (λ at. absurd at, λ both. none-under rules EveryPair cut are is.violated both.1)

pub threshold-none : (rules : RulesValue) (found : Threshold) → AreRules rules → IsThresholdOf rules found → IsNoneFits found ↔ (¬ (CanFit rules EveryPair))
threshold-none rules threshold.Free are is = (λ none. absurd none, λ none. none (locked-can rules is))
threshold-none rules (threshold.At score cut) are is = (λ none. absurd none, λ none. none (can-all rules (AtLeast score) is.threshold.feasible))
threshold-none rules (threshold.NoneFits cut) are is = (λ none. none-under rules EveryPair cut are is.violated, λ none. tt)

pub threshold-score : (rules : RulesValue) (found : Threshold) → AreRules rules → IsThresholdOf rules found
    → (score : ℤ) → IsAtScore found score ↔ IsThreshold rules score
threshold-score rules threshold.Free are is score = (λ at. absurd at, λ that. that.asked is)
threshold-score rules (threshold.At found cut) are is score =
    (λ same. subst (IsThreshold rules) same is.threshold, λ that. threshold-unique rules found score is.threshold that)
threshold-score rules (threshold.NoneFits cut) are is score =
    (λ at. absurd at, λ that. none-under rules EveryPair cut are is.violated (can-all rules (AtLeast score) that.feasible))

-- a ceiling, and a range, from what is known of their parts
pub ceiling-of : (rules : RulesValue) (high same : ℤ) (cut : Cut) → same ≡ high → CutMatches rules cut → high ≤ℤ pos most_score → Violated rules (Above high) cut
    → IsCeiling rules (record { high = same; cut = cut })
ceiling-of rules high same cut is known low violated = rw is (record { known = known; low = low; above = violated })

pub range-of : (rules : RulesValue) (low high same_low same_high : ℤ) (shares : List ℕ) (cut : Cut) → same_low ≡ low → same_high ≡ high
    → IsOpenScore rules low → SharesFit rules (AtLeast low) shares → CutMatches rules cut → Violated rules (Above high) cut
    → IsRange rules (record { low = same_low; shares = shares; high = same_high; cut = cut })
range-of rules low high same_low same_high shares cut low_is high_is of_pair fit known violated =
    rw (low_is, high_is) (record { of_pair = of_pair; fit = fit; known = known; above = violated })

-- below a ceiling the locked pairs alone don't suffice
pub ceiling-asked : (rules : RulesValue) (ceiling : Ceiling) → AreRules rules → IsCeiling rules ceiling → ¬ (CanFitLocked rules)
ceiling-asked rules ceiling are is =
    not-locked rules ceiling.cut are (violated-finer rules (Above (pos most_score)) (Above ceiling.high) ceiling.cut are (finer-above ceiling.high (pos most_score) is.low) is.above)

-- where its ends meet there is the level
pub level-met : (rules : RulesValue) (range : Range) → AreRules rules → ¬ (CanFitLocked rules) → IsRange rules range → range.high ≤ℤ range.low
    → IsLevelAt rules range.low range.shares range.cut
level-met rules range are asked is met = record {
  asked = asked;
  of_pair = is.of_pair;
  fit = is.fit;
  known = is.known;
  above = violated-finer rules (Above range.low) (Above range.high) range.cut are (finer-above range.high range.low met) is.above;
}

-- how far the high score is above the low one
abbrev pub span_of : ℤ → ℕ
span_of (pos n) = n
span_of (negsuc n) = 0

pub span-falls : (old new : ℤ) → new <ℤ old → pos 0 <ℤ old → span_of new < span_of old
span-falls (pos m) (pos n) less some = omega (arith, ints)
span-falls (pos m) (negsuc n) less some = omega (arith, ints)
span-falls (negsuc m) (pos n) less some = absurd (omega (arith, ints))
span-falls (negsuc m) (negsuc n) less some = absurd (omega (arith, ints))
