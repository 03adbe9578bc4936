-- The counts of an assignment are those of its places.
use Rattle.std.proofs.Common.{◌≡◌, ℕ, zero, suc, ◌+◌, ◌<◌, ◌≤◌, Bool, true, false, eqb, List, [], ◌∷◌, ◌++◌, length, get_or, All, count_by, cond, refl, sym, ap, ◌∙◌, subst, arith, inl, inr}
use Rattle.std.proofs.lemmas.Bool.{cases_lt, cases_eq, eq-eqb, ne_eqb}
use Rattle.std.proofs.lemmas.List.{get_or_append_left, get_or_push, length_push}
use Rattle.std.proofs.lemmas.List.Elements.{All-get_or, All-push, All-weaker, All-nil}
use Rattle.std.proofs.lemmas.List.Sums.{sum_by_push}
use Rattle.match_rules.specs.Answers.{IsRounding, Rounded, shares_where}
use Rattle.match_rules.specs.Assignments.{Meets, holds, reviewer_count, member_count}
use Rattle.match_rules.specs.Chosen.{chosen_below, chosen_places, AreChoices, CountsMeet, CountsRound}
use Rattle.match_rules.specs.Pieces.{DoAscend}
use Rattle.match_rules.specs.Rules.{RulesValue}
use Rattle.match_rules.specs.SharesFit.{group_shares, reviewer_shares}
use Rattle.match_rules.specs.Sums.{count_below, when}
use Rattle.match_rules.proofs.Holding.{holds-once}

when-none : (test : Bool) → when test 0 ≡ 0
when-none true = refl
when-none false = refl

counted-step : (test : ℕ → Bool) (count n sum : ℕ) (places : List ℕ) → count ≤ 1 → count_by test places ≡ sum
    → count_by test (cond (eqb count 0) places (places ++ (n ∷ []))) ≡ sum + when (test n) count
counted-step test zero n sum places h so_far = let none = when-none (test n) in omega arith
counted-step test (suc zero) n sum places h so_far = let push = sum_by_push (λ e. cond (test e) 1 0) places n in omega arith
counted-step test (suc (suc k)) n sum places h so_far = absurd (omega arith)

-- the chosen places that pass a test are as many as the counts of those that do
count_by-chosen : (test : ℕ → Bool) (counts : List ℕ) (n : ℕ) → ((e : ℕ) → e < n → get_or counts e 0 ≤ 1)
    → count_by test (chosen_below counts n) ≡ count_below n (λ e. when (test e) (get_or counts e 0))
count_by-chosen test counts zero single = refl
count_by-chosen test counts (suc n) single =
    counted-step test (get_or counts n 0) n _ (chosen_below counts n) (single n (omega arith)) (count_by-chosen test counts n (λ e h. single e (omega arith)))

-- the chosen places are below the number
below-more : (n : ℕ) (places : List ℕ) → All (λ e. e < n) places → All (λ e. e < suc n) places
below-more n places all = All-weaker (λ e. e < n) (λ e. e < suc n) (λ e h. omega arith) places all

below-step : (none : Bool) (n : ℕ) (places : List ℕ) → All (λ e. e < n) places → All (λ e. e < suc n) (cond none places (places ++ (n ∷ [])))
below-step true n places all = below-more n places all
below-step false n places all = All-push (λ e. e < suc n) places n (below-more n places all) (omega arith)

chosen-below : (counts : List ℕ) (n : ℕ) → All (λ e. e < n) (chosen_below counts n)
chosen-below counts zero = All-nil (λ e. e < 0)
chosen-below counts (suc n) = below-step (eqb (get_or counts n 0) 0) n (chosen_below counts n) (chosen-below counts n)

-- and ascend
ascends-push : (places : List ℕ) (n : ℕ) → DoAscend places → All (λ e. e < n) places → DoAscend (places ++ (n ∷ []))
ascends-push places n up all i h =
    let len = length_push places n in
    let here : get_or (places ++ (n ∷ [])) i 0 ≡ get_or places i 0 = get_or_append_left places (n ∷ []) 0 i (omega arith) in
    elim (cases_lt (i + 1) (length places)) [
      | inl before ↦ (let next : get_or (places ++ (n ∷ [])) (i + 1) 0 ≡ get_or places (i + 1) 0 = get_or_append_left places (n ∷ []) 0 (i + 1) before in
          let step : get_or places i 0 < get_or places (i + 1) 0 = up i before in
          omega arith)
      | inr last ↦ (let next : get_or (places ++ (n ∷ [])) (i + 1) 0 ≡ n = get_or_push places n 0 (i + 1) (omega arith) in
          let low : get_or places i 0 < n = All-get_or (λ e. e < n) places i 0 (omega arith) all in
          omega arith)
    ]

ascends-step : (none : Bool) (n : ℕ) (places : List ℕ) → DoAscend places → All (λ e. e < n) places → DoAscend (cond none places (places ++ (n ∷ [])))
ascends-step true n places up all = up
ascends-step false n places up all = ascends-push places n up all

chosen-ascends : (counts : List ℕ) (n : ℕ) → DoAscend (chosen_below counts n)
chosen-ascends counts zero = λ i h. absurd (omega arith)
chosen-ascends counts (suc n) = ascends-step (eqb (get_or counts n 0) 0) n (chosen_below counts n) (chosen-ascends counts n) (chosen-below counts n)

pub chosen_places-ascends : (counts : List ℕ) → DoAscend (chosen_places counts)
unfolding chosen_places
chosen_places-ascends counts = chosen-ascends counts (length counts)

-- one value of all
count_below-past : (n e : ℕ) (f : ℕ → ℕ) → n ≤ e → count_below n (λ k. when (eqb k e) (f k)) ≡ 0
count_below-past zero e f h = refl
count_below-past (suc n) e f h =
    let before : count_below n (λ k. when (eqb k e) (f k)) ≡ 0 = count_below-past n e f (omega arith) in
    let last : when (eqb n e) (f n) ≡ 0 = rw (ne_eqb n e (λ same. absurd (omega arith))) refl in
    omega arith

count_below-at : (n e : ℕ) (f : ℕ → ℕ) → e < n → count_below n (λ k. when (eqb k e) (f k)) ≡ f e
count_below-at zero e f h = absurd (omega arith)
count_below-at (suc n) e f h =
    elim (cases_eq n e) [
      | inl same ↦ (let before : count_below n (λ k. when (eqb k e) (f k)) ≡ 0 = count_below-past n e f (omega arith) in
          let last : when (eqb n e) (f n) ≡ f n = rw (eq-eqb n e same) refl in
          let is : f n ≡ f e = ap f same in
          omega arith)
      | inr other ↦ (let before : count_below n (λ k. when (eqb k e) (f k)) ≡ f e = count_below-at n e f (omega arith) in
          let last : when (eqb n e) (f n) ≡ 0 = rw (ne_eqb n e other) refl in
          omega arith)
    ]

-- what the chosen places hold
sums-chosen : (rules : RulesValue) (counts : List ℕ) (test : ℕ → Bool) → AreChoices rules counts → count_by test (chosen_places counts) ≡ shares_where rules counts test
unfolding chosen_places
sums-chosen rules counts test are =
    count_by-chosen test counts (length counts) are.single ∙ ap (λ n. count_below n (λ e. when (test e) (get_or counts e 0))) are.long

holds-chosen : (rules : RulesValue) (counts : List ℕ) (e : ℕ) → AreChoices rules counts → e < length rules.pairs → holds (chosen_places counts) e ≡ get_or counts e 0
holds-chosen rules counts e are h = sums-chosen rules counts (λ place. eqb place e) are ∙ count_below-at (length rules.pairs) e (λ k. get_or counts k 0) h

known-chosen : (rules : RulesValue) (counts : List ℕ) → AreChoices rules counts → All (λ e. e < length rules.pairs) (chosen_places counts)
unfolding chosen_places
known-chosen rules counts are = subst (λ n. All (λ e. e < n) (chosen_below counts (length counts))) are.long (chosen-below counts (length counts))

pub chosen-meets : (rules : RulesValue) (counts : List ℕ) → CountsMeet rules counts → Meets rules (chosen_places counts)
chosen-meets rules counts meet = record {
  candidates = known-chosen rules counts meet.choices;
  distinct = λ e. holds-once (chosen_places counts) e (chosen_places-ascends counts);
  papers = λ p h. sums-chosen rules counts _ meet.choices ∙ meet.papers p h;
  least = λ r h. let sums : reviewer_count rules (chosen_places counts) r ≡ reviewer_shares rules counts r = sums-chosen rules counts _ meet.choices in let low = meet.least r h in omega arith;
  greatest = λ r h. let sums : reviewer_count rules (chosen_places counts) r ≡ reviewer_shares rules counts r = sums-chosen rules counts _ meet.choices in let high = meet.greatest r h in omega arith;
  of_groups = λ g h. let sums : member_count rules (chosen_places counts) g ≡ group_shares rules counts g = sums-chosen rules counts _ meet.choices in let few = meet.of_groups g h in omega arith;
  locked = λ e h is. holds-chosen rules counts e meet.choices h ∙ meet.locked e h is;
}

pub chosen-rounded : (rules : RulesValue) (shares counts : List ℕ) → CountsRound rules shares counts → Rounded rules shares (chosen_places counts)
chosen-rounded rules shares counts round = record {
  candidates = known-chosen rules counts round.choices;
  reviewers = λ r h.
      subst (IsRounding rules.tickets (reviewer_shares rules shares r)) (sym (sums-chosen rules counts _ round.choices)) (round.reviewers r h);
  of_groups = λ g h. subst (IsRounding rules.tickets (group_shares rules shares g)) (sym (sums-chosen rules counts _ round.choices)) (round.of_groups g h);
  pairs = λ e h. subst (IsRounding rules.tickets (get_or shares e 0)) (sym (holds-chosen rules counts e round.choices h)) (round.pairs e h);
}
