-- How often an ascending list of places holds a place.
use Rattle.std.proofs.Common.{◌≡◌, ℕ, zero, suc, ◌+◌, ◌<◌, ◌≤◌, ◌≢◌, Bool, eqb, not, cond, List, length, take, get_or, All, Result, Ok, Err, refl, arith, add-one, sym, ap, inl, inr}
use Rattle.std.proofs.lemmas.Bool.{cases_lt, cases_eq, eq-eqb, ne_eqb, not_from_true, not_from_false}
use Rattle.std.proofs.lemmas.List.{take_all}
use Rattle.std.proofs.lemmas.List.Elements.{All-from_get_or}
use Rattle.std.proofs.lemmas.List.Sums.{count_by_more_yes, count_by_more_no, get_or-le-sum_by, sum_by-le}
use Rattle.std.proofs.lemmas.List.Sorted.{searched}
use Rattle.std.specs.List.Sorted.{IsBinarySearchResult}
use Rattle.std.specs.Ordering.{nat_cmp}
use Rattle.std.specs.Result.{is_ok}
use Rattle.match_rules.specs.Assignments.{holds}
use Rattle.match_rules.specs.Pieces.{DoAscend}

pub ascends : (places : List ℕ) (i j : ℕ) → DoAscend places → i ≤ j → j < length places → get_or places i 0 ≤ get_or places j 0
ascends places i zero up le h =
    let same : i ≡ 0 = omega arith in
    rw same (omega arith)
ascends places i (suc j) up le h =
    elim (cases_lt i (suc j)) [
      | inl lt ↦ (let before : get_or places i 0 ≤ get_or places j 0 = ascends places i j up (omega arith) (omega arith) in
          let step : get_or places j 0 < get_or places (j + 1) 0 = up j (omega arith) in
          let same : get_or places (j + 1) 0 ≡ get_or places (suc j) 0 = ap (λ k. get_or places k 0) (add-one j) in
          omega arith)
      | inr ge ↦ (let same : i ≡ suc j = omega arith in rw same (omega arith))
    ]

pub holds-some : (places : List ℕ) (i e : ℕ) → i < length places → get_or places i 0 ≡ e → 1 ≤ holds places e
holds-some places i e h found =
    let one = ap {B = ℕ} (λ (test : Bool). cond test 1 0) (eq-eqb _ _ found) in
    let part = get_or-le-sum_by (λ (place : ℕ). cond (eqb place e) 1 0) places i 0 h in
    omega (arith, one, part)

pub holds-none : (places : List ℕ) (e : ℕ) → ((k : ℕ) → k < length places → get_or places k 0 ≢ e) → holds places e ≡ 0
holds-none places e none =
    let each : All (λ place. cond (eqb place e) 1 0 ≤ 0) places = All-from_get_or (λ place. cond (eqb place e) 1 0 ≤ 0) places 0 (λ k h. rw (ne_eqb _ _ (none k h)) (omega arith)) in
    let in_all = sum_by-le (λ (place : ℕ). cond (eqb place e) 1 0) 0 places each in
    omega (arith, in_all)

-- each place before the i-th is below it
holds-front : (places : List ℕ) (e i : ℕ) → DoAscend places → i ≤ length places
    → (i < length places → get_or places i 0 ≤ e → holds (take i places) e ≡ 0) × (holds (take i places) e ≤ 1)
holds-front places e zero up h = (λ _ _. refl, omega arith)
holds-front places e (suc i) up h =
    let within : i < length places = omega arith in
    let before = holds-front places e i up (omega arith) in
    let next : suc i ≡ i + 1 = sym (add-one i) in
    elim (cases_eq (get_or places i 0) e) [
      | inl same ↦ (let none = before.0 within (omega arith) in
          let more = count_by_more_yes (λ place. eqb place e) places i 0 within (eq-eqb _ _ same) in
          rw next (λ later low. absurd (let step : get_or places i 0 < get_or places (i + 1) 0 = up i later in omega arith), omega arith))
      | inr other ↦ (let more = count_by_more_no (λ place. eqb place e) places i 0 within (ne_eqb _ _ other) in
          rw next (λ later low. (let step : get_or places i 0 < get_or places (i + 1) 0 = up i later in let none = before.0 within (omega arith) in omega arith), omega arith))
    ]

-- ascending places are distinct
pub holds-once : (places : List ℕ) (e : ℕ) → DoAscend places → holds places e ≤ 1
holds-once places e up =
    let once = (holds-front places e (length places) up (omega arith)).1 in
    rw (take_all (length places) places (omega arith)) at once

-- what a search in ascending places says
pub searched-holds : (places : List ℕ) (e : ℕ) (found : Result ℕ ℕ) → DoAscend places → IsBinarySearchResult (λ y. nat_cmp y e) places found → is_ok found ≡ not (eqb (holds places e) 0)
searched-holds places e (Ok i) up position =
    let at = searched places e (Ok i) position (λ i j le h. ascends places i j up le h) in
    let some = holds-some places i e at.0 at.1 in
    sym (not_from_false _ (ne_eqb _ _ (λ none. absurd (omega arith))))
searched-holds places e (Err i) up position =
    let at = searched places e (Err i) position (λ i j le h. ascends places i j up le h) in
    let none = holds-none places e (λ k h same. elim (cases_lt k i) [ inl before ↦ (let low = at.1 k before in omega arith) | inr after ↦ (let high = at.2 k after h in omega arith) ]) in
    sym (not_from_true _ (eq-eqb _ _ none))
