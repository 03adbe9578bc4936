-- The least score that shares use, place by place.
use Rattle.std.proofs.Common.{◌≡◌, ℕ, ◌+◌, ◌<◌, ◌≤◌, Bool, true, false, List, length, refl, subst, arith, inl, inr}
use Rattle.std.proofs.lemmas.Bool.{cases_lt}
use Rattle.std.proofs.lemmas.Int.{ints, clamps}
use Rattle.std.specs.Int.{int_min}
use Rattle.std.specs.Prelude.{Option, None, Some, ℤ, ◌<ℤ◌, ◌≤ℤ◌, int_le, int_lt, slice_index}
use Rattle.match_rules.specs.declared.answer.Sieve.TheVariants.{Above}
use Rattle.match_rules.specs.Assignments.{cap_under}
use Rattle.match_rules.specs.Rules.{RulesValue, pair_at}
use Rattle.match_rules.specs.SharesFit.{SharesFit}
use Rattle.match_rules.specs.Thresholds.{IsOpenScore}
use Rattle.fair_threshold.specs.Search.{IsLeastBelow, IsUsed, IsUsedScore, lower_of}

-- what holds of the places below n and of n holds of those below n + 1
step : (n : ℕ) (P : ℕ → Type 0) → ((e : ℕ) → e < n → P e) → P n → (e : ℕ) → e < n + 1 → P e
step n P before last e lt = elim (cases_lt e n) [
  | inl below ↦ before e below
  | inr above ↦ let same : n ≡ e = omega (arith, lt, above) in subst P same last
]

pub least-first : (rules : RulesValue) (shares : List ℕ) → IsLeastBelow rules shares 0 None
least-first rules shares e lt used = omega arith

pub least-same : (rules : RulesValue) (shares : List ℕ) (n : ℕ) (least : Option ℤ) → IsLeastBelow rules shares n least → ¬ (IsUsed rules shares n)
    → IsLeastBelow rules shares (n + 1) least
least-same rules shares n None before unused = step n (λ e. ¬ (IsUsed rules shares e)) before unused
least-same rules shares n (Some least) (of_pair, before) unused =
    (of_pair, step n (λ e. IsUsed rules shares e → least ≤ℤ (pair_at rules e).score) before (λ used. absurd (unused used)))

-- the lower of two scores is one of them
lower-used : (rules : RulesValue) (shares : List ℕ) (a b : ℤ) → IsUsedScore rules shares a → IsUsedScore rules shares b → IsUsedScore rules shares (int_min a b)
lower-used rules shares a b one other = by (int_le a b) refl
  where
    by : (t : Bool) → int_le a b ≡ t → IsUsedScore rules shares (int_min a b)
    by true is = let same : a ≡ int_min a b = omega (arith, ints, clamps) in subst (IsUsedScore rules shares) same one
    by false is = let same : b ≡ int_min a b = omega (arith, ints, clamps) in subst (IsUsedScore rules shares) same other

pub least-more : (rules : RulesValue) (shares : List ℕ) (n : ℕ) (least : Option ℤ) → IsLeastBelow rules shares n least → n < length rules.pairs → IsUsed rules shares n
    → IsLeastBelow rules shares (n + 1) (Some (lower_of least (pair_at rules n).score))
least-more rules shares n None before within used = (
  (n, (within, (used, refl))),
  step n (λ e. IsUsed rules shares e → (pair_at rules n).score ≤ℤ (pair_at rules e).score) (λ e lt also. absurd (before e lt also)) (λ also. omega (arith, ints)),
)
least-more rules shares n (Some least) (of_pair, before) within used = (
  lower-used rules shares least (pair_at rules n).score of_pair (n, (within, (used, refl))),
  step n (λ e. IsUsed rules shares e → int_min least (pair_at rules n).score ≤ℤ (pair_at rules e).score)
      (λ e lt also. let low = before e lt also in omega (arith, ints, clamps)) (λ also. omega (arith, ints, clamps)),
)

-- a score that shares use is that of a pair that isn't locked
pub used-open : (rules : RulesValue) (shares : List ℕ) (score : ℤ) → IsUsedScore rules shares score → IsOpenScore rules score
used-open rules shares score (e, (within, (used, is))) = (e, (within, (used.free, is)))

-- and it passes the sieve under which they fit
pub used-above : (rules : RulesValue) (shares : List ℕ) (bound score : ℤ) → SharesFit rules (Above bound) shares → IsUsedScore rules shares score → bound <ℤ score
used-above rules shares bound score fit (e, (within, (used, is))) = by (int_lt bound (pair_at rules e).score) refl
  where
    by : (t : Bool) → int_lt bound (pair_at rules e).score ≡ t → bound <ℤ score
    by true passes = let less : bound <ℤ (pair_at rules e).score = omega (arith, ints) in subst (λ (z : ℤ). bound <ℤ z) is less
    by false passes =
        let none : cap_under rules (Above bound) e ≡ 0 = rw (used.free, passes) refl in
        let held : slice_index shares e ≤ cap_under rules (Above bound) e = fit.caps e within in
        let some : 1 ≤ slice_index shares e = used.some in
        absurd (omega (arith, none, held, some))
