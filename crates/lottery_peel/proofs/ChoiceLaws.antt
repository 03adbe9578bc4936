-- Places of chosen pairs: taken in, taken out, and those of all counts.
use Rattle.std.proofs.Common.{◌≡◌, ◌≢◌, ℕ, zero, suc, ◌+◌, ◌-◌, ◌<◌, ◌≤◌, Bool, true, false, List, [], ◌∷◌, ◌++◌, length, get_or, cond, refl, sym, ap, ◌∙◌, subst, arith, inl, inr}
use Rattle.std.specs.Prelude.{◌⊎◌, ◌==◌, slice_index, Contains, Result, MatchResult}
use Rattle.std.specs.List.{insert, remove}
use Rattle.std.specs.List.Sorted.{IsBinarySearchResult}
use Rattle.std.specs.Ordering.{nat_cmp}
use Rattle.std.proofs.lemmas.Bool.{cases_eq, cases_lt, ne_eqb}
use Rattle.std.proofs.lemmas.List.Edits.{length-insert, get_or-insert_below, get_or-insert_at, get_or-insert_above, length-remove, get_or-remove_below, get_or-remove_above}
use Rattle.std.proofs.lemmas.List.Elements.{Contains-push, Contains-push_cases, Contains-append_left}
use Rattle.std.proofs.lemmas.List.Sorted.{searched}
use Rattle.std.proofs.lemmas.Map.Keys.{sorted_from_strictly_increasing, below_from_sorted, non_decreasing_from_sorted}
use Rattle.match_rules.specs.Chosen.{chosen_below, chosen_places}
use Rattle.match_rules.specs.Pieces.{DoAscend}
use Rattle.match_rules.specs.Rules.{RulesValue}
use Rattle.match_rules.proofs.Ascending.{contains_from_in, in_from_contains, same_ascending}
use Rattle.match_rules.proofs.ChosenLaws.{chosen_places-ascends}
use Rattle.bounded_network.specs.Compile.{amounts_in}
use Rattle.bounded_network.proofs.Compiled.{amount-in}
use Rattle.residual_arcs.specs.declared.step.Step.{Step}
use Rattle.unit_turns.specs.Steps.{step_at}
use Rattle.lottery_peel.specs.Choices.{AreChosenBut, AreOthers, IsTakenIn, IsTakenOut}
use Rattle.lottery_peel.proofs.DueLaws.{contains-at, at-contains}

-- ---- a place is taken in or out

rises : (xs : List ℕ) (i j : ℕ) → DoAscend xs → i < j → j < length xs → get_or xs i 0 < get_or xs j 0
rises xs i j up before within = below_from_sorted xs i j 0 (sorted_from_strictly_increasing xs up) before within

-- what a search for a place says of ascending ones
pub found-at : (xs : List ℕ) (y : ℕ) (r : Result ℕ ℕ) → DoAscend xs → IsBinarySearchResult (λ x. nat_cmp x y) xs r
    → MatchResult r (λ i. (i < length xs) × (get_or xs i 0 ≡ y)) (λ i. (i ≤ length xs) × ((k : ℕ) → k < i → get_or xs k 0 < y) × ((k : ℕ) → i ≤ k → k < length xs → y < get_or xs k 0))
found-at xs y r up found = searched xs y r found (λ i j before within. non_decreasing_from_sorted xs (sorted_from_strictly_increasing xs up) i j 0 before within)

pub in-already : (xs : List ℕ) (i y : ℕ) → DoAscend xs → i < length xs → get_or xs i 0 ≡ y → IsTakenIn xs y xs
in-already xs i y up lt is = record {
  ascend = up;
  here = at-contains xs y i lt is;
  kept = λ e has. has;
  only = λ e has other. has;
}

insert-past : (xs : List ℕ) (i y k : ℕ) → i ≤ length xs → i < k → get_or (insert xs i y) k 0 ≡ get_or xs (k - 1) 0
insert-past xs i y k most past =
    let e : (k - 1) + 1 ≡ k = omega arith in
    subst (λ n. get_or (insert xs i y) n 0 ≡ get_or xs (k - 1) 0) e (get_or-insert_above xs i y 0 (k - 1) (omega arith) most)

remove-past : (xs : List ℕ) (i k : ℕ) → i < length xs → i < k → get_or (remove xs i) (k - 1) 0 ≡ get_or xs k 0
remove-past xs i k lt past =
    let e : (k - 1) + 1 ≡ k = omega arith in
    subst (λ n. get_or (remove xs i) (k - 1) 0 ≡ get_or xs n 0) e (get_or-remove_above xs i 0 (k - 1) (omega arith) lt)

insert-ascends : (xs : List ℕ) (i y : ℕ) → DoAscend xs → i ≤ length xs → ((k : ℕ) → k < i → get_or xs k 0 < y) → ((k : ℕ) → i ≤ k → k < length xs → y < get_or xs k 0) → DoAscend (insert xs i y)
insert-ascends xs i y up most low high k lt = elim (cases_lt (k + 1) i) [
  | inl before ↦
      let first = get_or-insert_below xs i y 0 k (omega arith) most in
      let second = get_or-insert_below xs i y 0 (k + 1) before most in
      let step = up k (omega arith) in
      omega arith
  | inr late ↦ elim (cases_eq (k + 1) i) [
    | inl next ↦
        let first = get_or-insert_below xs i y 0 k (omega arith) most in
        let second : get_or (insert xs i y) (k + 1) 0 ≡ y = ap (λ n. get_or (insert xs i y) n 0) next ∙ get_or-insert_at xs i y 0 most in
        let below = low k (omega arith) in
        omega arith
    | inr past ↦ behind k lt (omega arith)
  ]
]
  where
    behind : (k : ℕ) → k + 1 < length (insert xs i y) → i ≤ k → get_or (insert xs i y) k 0 < get_or (insert xs i y) (k + 1) 0
    behind k lt late =
        let long = length-insert xs i y most in
        let second = get_or-insert_above xs i y 0 k late most in
        elim (cases_eq k i) [
          | inl here ↦
              let first : get_or (insert xs i y) k 0 ≡ y = ap (λ n. get_or (insert xs i y) n 0) here ∙ get_or-insert_at xs i y 0 most in
              let above = high k late (omega arith) in
              omega arith
          | inr past ↦ after k lt (omega arith)
        ]
      where
        after : (k : ℕ) → k + 1 < length (insert xs i y) → i < k → get_or (insert xs i y) k 0 < get_or (insert xs i y) (k + 1) 0
        after k lt past =
            let long = length-insert xs i y most in
            let first = insert-past xs i y k most past in
            let second = get_or-insert_above xs i y 0 k (omega arith) most in
            let step = rises xs (k - 1) k up (omega arith) (omega arith) in
            omega (arith, first, second, step)

insert-keeps : (xs : List ℕ) (i y e : ℕ) → i ≤ length xs → Contains xs e → Contains (insert xs i y) e
insert-keeps xs i y e most has =
    let at = contains-at xs e has in
    let long = length-insert xs i y most in
    elim (cases_lt at.0 i) [
      | inl before ↦ at-contains (insert xs i y) e at.0 (let within = at.1.0 in omega arith) (get_or-insert_below xs i y 0 at.0 before most ∙ at.1.1)
      | inr late ↦ at-contains (insert xs i y) e (at.0 + 1) (let within = at.1.0 in omega arith) (get_or-insert_above xs i y 0 at.0 late most ∙ at.1.1)
    ]

insert-only : (xs : List ℕ) (i y e : ℕ) → i ≤ length xs → Contains (insert xs i y) e → e ≢ y → Contains xs e
insert-only xs i y e most has other =
    let at = contains-at (insert xs i y) e has in
    let long = length-insert xs i y most in
    by at.0 at.1.0 at.1.1 (cases_lt at.0 i)
  where
    by : (k : ℕ) → k < length (insert xs i y) → slice_index (insert xs i y) k ≡ e → (k < i) ⊎ (i ≤ k) → Contains xs e
    by k within is (inl before) = at-contains xs e k (omega arith) (sym (get_or-insert_below xs i y 0 k before most) ∙ is)
    by k within is (inr late) = elim (cases_eq k i) [
      | inl here ↦ absurd (other (sym is ∙ ap (λ n. get_or (insert xs i y) n 0) here ∙ get_or-insert_at xs i y 0 most))
      | inr past ↦
          let long = length-insert xs i y most in
          at-contains xs e (k - 1) (omega arith) (sym (insert-past xs i y k most (omega arith)) ∙ is)
    ]

pub in-inserted : (xs : List ℕ) (i y : ℕ) → DoAscend xs → i ≤ length xs → ((k : ℕ) → k < i → get_or xs k 0 < y) → ((k : ℕ) → i ≤ k → k < length xs → y < get_or xs k 0) → IsTakenIn xs y (insert xs i y)
in-inserted xs i y up most low high = record {
  ascend = insert-ascends xs i y up most low high;
  here = at-contains (insert xs i y) y i (let long = length-insert xs i y most in omega arith) (get_or-insert_at xs i y 0 most);
  kept = λ e has. insert-keeps xs i y e most has;
  only = λ e has other. insert-only xs i y e most has other;
}

pub out-already : (xs : List ℕ) (i y : ℕ) → DoAscend xs → ((k : ℕ) → k < i → get_or xs k 0 < y) → ((k : ℕ) → i ≤ k → k < length xs → y < get_or xs k 0) → IsTakenOut xs y xs
out-already xs i y up low high = record {
  ascend = up;
  gone = λ has.
      let at = contains-at xs y has in
      elim (cases_lt at.0 i) [
        | inl before ↦ absurd (let below = low at.0 before in let is = at.1.1 in omega arith)
        | inr late ↦ absurd (let above = high at.0 late at.1.0 in let is = at.1.1 in omega arith)
      ];
  kept = λ e has other. has;
  only = λ e has. has;
}

-- what is left of a list without one of its places
remove-at : (xs : List ℕ) (i k : ℕ) → i < length xs → k < length (remove xs i) → (j : ℕ) × (j < length xs) × (j ≢ i) × (get_or (remove xs i) k 0 ≡ get_or xs j 0) × ((k < i) → j ≡ k) × ((i ≤ k) → j ≡ k + 1)
remove-at xs i k lt within =
    let long = length-remove xs i lt in
    elim (cases_lt k i) [
      | inl before ↦ (k, omega arith, λ same. absurd (omega arith), get_or-remove_below xs i 0 k before lt, λ below. refl, λ late. absurd (omega arith))
      | inr late ↦ (k + 1, omega arith, λ same. absurd (omega arith), get_or-remove_above xs i 0 k late lt, λ below. absurd (omega arith), λ past. refl)
    ]

pub out-removed : (xs : List ℕ) (i y : ℕ) → DoAscend xs → i < length xs → get_or xs i 0 ≡ y → IsTakenOut xs y (remove xs i)
out-removed xs i y up lt is = record {
  ascend = λ k within.
      let first = remove-at xs i k lt (omega arith) in
      let second = remove-at xs i (k + 1) lt within in
      let order : first.0 < second.0 = elim (cases_lt k i) [
        | inl before ↦ elim (cases_lt (k + 1) i) [
          | inl also ↦ (let a = first.4 before in let b = second.4 also in omega arith)
          | inr late ↦ (let a = first.4 before in let b = second.5 late in omega arith)
        ]
        | inr late ↦ (let a = first.5 late in let b = second.5 (omega arith) in omega arith)
      ] in
      let step = rises xs first.0 second.0 up order second.1 in
      let a = first.3 in
      let b = second.3 in
      omega arith;
  gone = λ has.
      let at = contains-at (remove xs i) y has in
      let from = remove-at xs i at.0 lt at.1.0 in
      let same : get_or xs from.0 0 ≡ get_or xs i 0 = sym from.3 ∙ at.1.1 ∙ sym is in
      elim (cases_lt from.0 i) [
        | inl before ↦ absurd (let step = rises xs from.0 i up before lt in omega arith)
        | inr late ↦ elim (cases_eq from.0 i) [
          | inl here ↦ absurd (from.2 here)
          | inr past ↦ absurd (let step = rises xs i from.0 up (omega arith) from.1 in omega arith)
        ]
      ];
  kept = λ e has other.
      let at = contains-at xs e has in
      let long = length-remove xs i lt in
      stays e at.0 at.1.0 at.1.1 other (cases_lt at.0 i);
  only = λ e has.
      let at = contains-at (remove xs i) e has in
      let from = remove-at xs i at.0 lt at.1.0 in
      at-contains xs e from.0 from.1 (sym from.3 ∙ at.1.1);
}
  where
    stays : (e k : ℕ) → k < length xs → slice_index xs k ≡ e → e ≢ y → (k < i) ⊎ (i ≤ k) → Contains (remove xs i) e
    stays e k within at other (inl before) =
        let long = length-remove xs i lt in
        at-contains (remove xs i) e k (omega arith) (get_or-remove_below xs i 0 k before lt ∙ at)
    stays e k within at other (inr late) = elim (cases_eq k i) [
      | inl here ↦ absurd (other (sym at ∙ ap (λ n. get_or xs n 0) here ∙ is))
      | inr past ↦
          let long = length-remove xs i lt in
          at-contains (remove xs i) e (k - 1) (omega arith) (remove-past xs i k lt (omega arith) ∙ at)
    ]

-- ---- the places of counts

some-of : (count : ℕ) → (count == 0) ≡ false → 1 ≤ count
some-of zero is = absurd (cc is)
some-of (suc n) is = omega arith

in-step : (none : Bool) (n e : ℕ) (places : List ℕ) → Contains places e → Contains (cond none places (places ++ (n ∷ []))) e
in-step true n e places has = has
in-step false n e places has = Contains-append_left places (n ∷ []) e has

in-below : (counts : List ℕ) (n e : ℕ) → e < n → 1 ≤ slice_index counts e → Contains (chosen_below counts n) e
in-below counts zero e lt some = absurd (omega arith)
in-below counts (suc n) e lt some = elim (cases_eq n e) [
  | inl last ↦
      let not_none : (slice_index counts n == 0) ≡ false = ne_eqb (slice_index counts n) 0 (λ none. absurd (let is : slice_index counts n ≡ slice_index counts e = ap (λ k. slice_index counts k) last in omega arith)) in
      subst (λ k. Contains (chosen_below counts (suc n)) k) last (rw not_none (Contains-push (chosen_below counts n) n))
  | inr before ↦ in-step (slice_index counts n == 0) n e (chosen_below counts n) (in-below counts n e (omega arith) some)
]

from-step : (counts : List ℕ) (none : Bool) (n e : ℕ) → (slice_index counts n == 0) ≡ none → (Contains (chosen_below counts n) e → (e < n) × (1 ≤ slice_index counts e))
    → Contains (cond none (chosen_below counts n) (chosen_below counts n ++ (n ∷ []))) e → (e < suc n) × (1 ≤ slice_index counts e)
from-step counts true n e is before has = let old = before has in (let lt = old.0 in omega arith, old.1)
from-step counts false n e is before has = elim (Contains-push_cases (chosen_below counts n) n e has) [
  | inl earlier ↦ (let old = before earlier in (let lt = old.0 in omega arith, old.1))
  | inr last ↦ (omega arith, subst (λ k. 1 ≤ slice_index counts k) last (some-of (slice_index counts n) is))
]

from-below : (counts : List ℕ) (n e : ℕ) → Contains (chosen_below counts n) e → (e < n) × (1 ≤ slice_index counts e)
from-below counts zero e has = absurd (let lt = has.1 in omega arith)
from-below counts (suc n) e has = from-step counts (slice_index counts n == 0) n e refl (from-below counts n e) has

pub in-chosen : (counts : List ℕ) (e : ℕ) → e < length counts → 1 ≤ slice_index counts e → Contains (chosen_places counts) e
unfolding chosen_places
in-chosen counts e lt some = in-below counts (length counts) e lt some

pub from-chosen : (counts : List ℕ) (e : ℕ) → Contains (chosen_places counts) e → (e < length counts) × (1 ≤ slice_index counts e)
unfolding chosen_places
from-chosen counts e has = from-below counts (length counts) e has

-- ---- while steps are taken

-- counts of pairs over which no steps went are as they were
pub chosen-before : (rules : RulesValue) (old new : List ℕ) (steps : List Step) (places : List ℕ) → places ≡ chosen_places (amounts_in rules old)
    → length (amounts_in rules old) ≡ length rules.pairs → length (amounts_in rules new) ≡ length rules.pairs
    → ((a : ℕ) → ((i : ℕ) → i < length steps → (step_at steps i).arc ≢ a) → slice_index new a ≡ slice_index old a) → AreChosenBut (amounts_in rules new) steps 0 places
chosen-before rules old new steps places are long size stay =
    let same : (e : ℕ) → e < length rules.pairs → AreOthers steps 0 e → slice_index (amounts_in rules new) e ≡ slice_index (amounts_in rules old) e =
    λ e lt others. amount-in rules new e lt ∙ stay e (λ i within. others i (omega arith) within) ∙ sym (amount-in rules old e lt) in
    record {
      ascend = rw are (chosen_places-ascends (amounts_in rules old));
      known = λ e has. let old_one = from-chosen (amounts_in rules old) e (rw are at has) in (let lt = old_one.0 in omega arith);
      all = λ e lt others some. rw are (in-chosen (amounts_in rules old) e (omega arith) (let is = same e (omega arith) others in omega arith));
      only = λ e has others.
          let old_one = from-chosen (amounts_in rules old) e (rw are at has) in
          let lt = old_one.0 in
          let some = old_one.1 in
          (let is = same e (omega arith) others in omega arith);
    }

others-more : (steps : List Step) (place e : ℕ) → AreOthers steps (place + 1) e → (step_at steps place).arc ≢ e → AreOthers steps place e
others-more steps place e others other i from within = elim (cases_eq i place) [
  | inl here ↦ subst (λ n. (step_at steps n).arc ≢ e) (sym here) other
  | inr later ↦ others i (omega arith) within
]

-- a step over an arc that is no pair's
pub chosen-none : (counts : List ℕ) (steps : List Step) (place : ℕ) (places : List ℕ) → AreChosenBut counts steps place places → length counts ≤ (step_at steps place).arc
    → AreChosenBut counts steps (place + 1) places
chosen-none counts steps place places before past = record {
  ascend = before.ascend;
  known = before.known;
  all = λ e lt others some. before.all e lt (others-more steps place e others (λ same. absurd (omega arith))) some;
  only = λ e has others. before.only e has (others-more steps place e others (λ same. absurd (let lt = before.known e has in omega arith)));
}

pub chosen-in : (counts : List ℕ) (steps : List Step) (place : ℕ) (places new : List ℕ) → AreChosenBut counts steps place places → (step_at steps place).arc < length counts
    → 1 ≤ slice_index counts (step_at steps place).arc → IsTakenIn places (step_at steps place).arc new → AreChosenBut counts steps (place + 1) new
chosen-in counts steps place places new before lt some taken = record {
  ascend = taken.ascend;
  known = λ e has. elim (cases_eq e (step_at steps place).arc) [
    | inl here ↦ (omega arith)
    | inr other ↦ before.known e (taken.only e has other)
  ];
  all = λ e within others positive. elim (cases_eq e (step_at steps place).arc) [
    | inl here ↦ subst (λ k. Contains new k) (sym here) taken.here
    | inr other ↦ taken.kept e (before.all e within (others-more steps place e others (λ same. other (sym same))) positive)
  ];
  only = λ e has others. elim (cases_eq e (step_at steps place).arc) [
    | inl here ↦ subst (λ k. 1 ≤ slice_index counts k) (sym here) some
    | inr other ↦ before.only e (taken.only e has other) (others-more steps place e others (λ same. other (sym same)))
  ];
}

pub chosen-out : (counts : List ℕ) (steps : List Step) (place : ℕ) (places new : List ℕ) → AreChosenBut counts steps place places
    → slice_index counts (step_at steps place).arc ≡ 0 → IsTakenOut places (step_at steps place).arc new → AreChosenBut counts steps (place + 1) new
chosen-out counts steps place places new before none taken = record {
  ascend = taken.ascend;
  known = λ e has. before.known e (taken.only e has);
  all = λ e within others positive. elim (cases_eq e (step_at steps place).arc) [
    | inl here ↦ absurd (let is : slice_index counts e ≡ slice_index counts (step_at steps place).arc = ap (λ k. slice_index counts k) here in omega arith)
    | inr other ↦ taken.kept e (before.all e within (others-more steps place e others (λ same. other (sym same))) positive) other
  ];
  only = λ e has others. before.only e (taken.only e has) (others-more steps place e others (λ same. taken.gone (subst (λ k. Contains new k) (sym same) has)));
}

pub chosen-all : (counts : List ℕ) (steps : List Step) (places : List ℕ) → AreChosenBut counts steps (length steps) places → places ≡ chosen_places counts
chosen-all counts steps places are =
    let others : (e : ℕ) → AreOthers steps (length steps) e = λ e i from within. absurd (omega arith) in
    same_ascending places (chosen_places counts)
    (sorted_from_strictly_increasing places are.ascend) (sorted_from_strictly_increasing (chosen_places counts) (chosen_places-ascends counts))
    (λ z has.
    let is = from-chosen counts z (contains_from_in z (chosen_places counts) has) in
    in_from_contains z places (are.all z is.0 (others z) is.1))
    (λ z has.
    let there = contains_from_in z places has in
    in_from_contains z (chosen_places counts) (in-chosen counts z (are.known z there) (are.only z there (others z))))
