-- Numbers that ascend, found by a search, and the first place of each number of a list from a place on.
use Rattle.std.proofs.Common.{◌≡◌, ℕ, ◌<◌, ◌≤◌, inl, inr, List, length, get_or, Option, Some, None, Err, ◌∙◌, arith}
use Rattle.std.specs.Ordering.{nat_cmp}
use Rattle.std.specs.List.{Contains}
use Rattle.std.specs.List.Sorted.{IsStrictlyIncreasing, IsBinarySearchResult}
use Rattle.std.proofs.lemmas.Bool.{cases_lt}
use Rattle.std.proofs.lemmas.List.{get_or_default}
use Rattle.std.proofs.lemmas.List.Sorted.{searched}
use Rattle.std.proofs.lemmas.Map.Keys.{sorted_from_strictly_increasing, non_decreasing_from_sorted}

-- a search among numbers that ascend finds a number that stands there
pub not_missing_number : (xs : List ℕ) (x place : ℕ) → IsStrictlyIncreasing xs → Contains xs x → IsBinarySearchResult (λ y. nat_cmp y x) xs (Err place) → ⊥
not_missing_number xs x place rises (k, within, at) found =
    let rising = non_decreasing_from_sorted xs (sorted_from_strictly_increasing xs rises) in
    let parts = searched xs x (Err place) found (λ i j h w. rising i j 0 h w) in
    let there : get_or xs k 0 ≡ x = get_or_default xs k 0 x within ∙ at in
    elim (cases_lt k place) as (λ _. ⊥) [
      | inl below ↦ let low = parts.1 k below in omega (arith, low, there)
      | inr above ↦ let high = parts.2 k above within in omega (arith, high, there)
    ]

-- the first place from n on at which g stands
pub record IsFirstFrom (groups : List (Option ℕ)) (n g first : ℕ) : Type 0 where
  pub from : n ≤ first
  pub within : first < length groups
  pub has : get_or groups first None ≡ Some g
  pub before : (e : ℕ) → n ≤ e → e < first → ¬ (get_or groups e None ≡ Some g)

-- each number that stands from n on has its first place from n on
abbrev pub AreFirstFrom : List (Option ℕ) → ℕ → List ℕ → Type 0
AreFirstFrom groups n firsts = (e g : ℕ) → n ≤ e → e < length groups → get_or groups e None ≡ Some g → IsFirstFrom groups n g (get_or firsts g 0)
