-- A place is marked where a search finds it.
use Rattle.std.proofs.Common.{◌≡◌, ℕ, zero, suc, ◌+◌, ◌-◌, ◌<◌, ◌≤◌, ◌==◌, true, false, List, length, refl, sym, arith, get_or, nat_lt, ◌⊎◌, inl, inr}
use Rattle.std.proofs.lemmas.Grind.{get_or_default_zero}
use Rattle.std.proofs.lemmas.Bool.Decides.{nat_tests}
use Rattle.std.proofs.lemmas.List.Folds.{list_any_at, list_any_none}
use Rattle.std.proofs.lemmas.List.Sorted.{searched}
use Rattle.std.specs.Prelude.{Result, Ok, Err}
use Rattle.std.specs.List.Sorted.{IsBinarySearchResult}
use Rattle.std.specs.Ordering.{nat_cmp}
use Rattle.std.specs.Result.{is_ok}
use Rattle.match_rules.specs.Pieces.{DoAscend}
use Rattle.match_rules.specs.Evidence.{marks}

-- what ascends from place to place ascends over any distance
rises : (xs : List ℕ) (i far : ℕ) → DoAscend xs → i + far < length xs → get_or xs i 0 ≤ get_or xs (i + far) 0
rises xs i zero ascend below = let e : i + zero ≡ i = omega arith in rw e (omega arith)
rises xs i (suc far) ascend below =
    let e : i + suc far ≡ (i + far) + 1 = omega arith in
    let near = rises xs i far ascend (omega arith) in
    let step : get_or xs (i + far) 0 < get_or xs ((i + far) + 1) 0 = ascend (i + far) (omega arith) in
    rw e (omega arith)

ascending : (xs : List ℕ) → DoAscend xs → (i j : ℕ) → i ≤ j → j < length xs → get_or xs i 0 ≤ get_or xs j 0
ascending xs ascend i j before below =
    let e : i + (j - i) ≡ j = omega arith in
    rw e at (rises xs i (j - i) ascend (omega arith))

before_or_from : (k i : ℕ) → (k < i) ⊎ (i ≤ k)
before_or_from k i = elim (nat_lt k i) as (λ b. nat_lt k i ≡ b → (k < i) ⊎ (i ≤ k)) [
  | true ↦ λ t. inl (grind (arith, nat_tests))
  | false ↦ λ t. inr (grind (arith, nat_tests))
] refl

apart : (a b : ℕ) → (a < b) ⊎ (b < a) → (a == b) ≡ false
apart a b (inl h) = grind (arith, nat_tests)
apart a b (inr h) = grind (arith, nat_tests)

-- what a binary search of places that ascend answers
pub marks-found : (xs : List ℕ) (place : ℕ) (answer : Result ℕ ℕ) → DoAscend xs → IsBinarySearchResult (λ y. nat_cmp y place) xs answer
    → is_ok answer ≡ marks xs place
marks-found xs place (Ok i) ascend result =
    let at = searched xs place (Ok i) result (ascending xs ascend) in
    let test : (get_or xs i 0 == place) ≡ true = grind (arith, nat_tests, at.1) in
    sym (list_any_at (λ k. k == place) xs i 0 at.0 test)
marks-found xs place (Err i) ascend result =
    let at = searched xs place (Err i) result (ascending xs ascend) in
    sym (list_any_none (λ k. k == place) xs (λ k d below.
    rw (get_or_default_zero xs k d below) (elim (before_or_from k i) [
      | inl before ↦ apart (get_or xs k 0) place (inl (at.1 k before))
      | inr from ↦ apart (get_or xs k 0) place (inr (at.2 k from below))
    ])))
