-- Lists of the tickets at which counts are due, one entry at a time.
use Rattle.std.proofs.Common.{◌≡◌, ◌≢◌, ℕ, ◌+◌, ◌-◌, ◌<◌, ◌≤◌, List, [], ◌∷◌, ◌++◌, length, get_or-set_same, get_or-set_other, refl, sym, ap, ◌∙◌, subst, arith, inl, inr}
use Rattle.std.specs.Prelude.{slice_index, slice_index_or, slice_set, Contains}
use Rattle.std.specs.List.Sorted.{IsPermutation}
use Rattle.std.proofs.lemmas.Bool.{cases_eq, cases_lt}
use Rattle.std.proofs.lemmas.List.{get_or_append_left, get_or_default, get_or_push, length_push, length-set}
use Rattle.std.proofs.lemmas.List.Elements.{Contains-append_left, Contains-get_or, Contains-push}
use Rattle.std.proofs.lemmas.List.Sorted.{Contains-permutation, IsPermutation-sym}
use Rattle.residual_arcs.specs.declared.step.Step.{Step}
use Rattle.unit_turns.specs.Steps.{step_at}
use Rattle.lottery_peel.specs.Peeling.{limit}
use Rattle.lottery_peel.specs.Standing.{AreDueArcs, AreTurned, AreWaiting, Waits}

-- ---- entries of a list

pub contains-at : (xs : List ℕ) (a : ℕ) → Contains xs a → (k : ℕ) × ((k < length xs) × (slice_index xs k ≡ a))
contains-at xs a (k, lt, is) = (k, (lt, get_or_default xs k 0 a lt ∙ is))

pub at-contains : (xs : List ℕ) (a k : ℕ) → k < length xs → slice_index xs k ≡ a → Contains xs a
at-contains xs a k lt is = subst (λ n. Contains xs n) is (Contains-get_or xs k 0 lt)

-- ---- lists of arcs by ticket

pub waits-added : (lists : List (List ℕ)) (ticket a : ℕ) → ticket < length lists → Waits (slice_set lists ticket (slice_index_or lists ticket [] ++ (a ∷ []))) ticket a
waits-added lists ticket a lt =
    subst (λ xs. Contains xs a) (sym (get_or-set_same lists ticket (slice_index_or lists ticket [] ++ (a ∷ [])) [] lt)) (Contains-push (slice_index_or lists ticket []) a)

pub waits-kept : (lists : List (List ℕ)) (ticket a t k : ℕ) → ticket < length lists → Waits lists t k → Waits (slice_set lists ticket (slice_index_or lists ticket [] ++ (a ∷ []))) t k
waits-kept lists ticket a t k lt waits = elim (cases_eq t ticket) [
  | inl same ↦
      let here : Waits lists ticket k = subst (λ n. Waits lists n k) same waits in
      subst (λ n. Waits (slice_set lists ticket (slice_index_or lists ticket [] ++ (a ∷ []))) n k) (sym same)
      (subst (λ xs. Contains xs k) (sym (get_or-set_same lists ticket (slice_index_or lists ticket [] ++ (a ∷ [])) [] lt)) (Contains-append_left (slice_index_or lists ticket []) (a ∷ []) k here))
  | inr other ↦ subst (λ xs. Contains xs k) (sym (get_or-set_other lists ticket t (slice_index_or lists ticket [] ++ (a ∷ [])) [] other)) waits
]

-- what was added at a step waits too
pub waits-more : (all : ℕ) (dues : List ℕ) (steps : List Step) (old new : List (List ℕ)) (place : ℕ) → ((t a : ℕ) → Waits old t a → Waits new t a)
    → (slice_index dues (step_at steps place).arc < all → Waits new (slice_index dues (step_at steps place).arc) (step_at steps place).arc)
    → ((a : ℕ) → a < length dues → slice_index dues a < all → ((i : ℕ) → place ≤ i → i < length steps → (step_at steps i).arc ≢ a) → Waits old (slice_index dues a) a)
    → (a : ℕ) → a < length dues → slice_index dues a < all → ((i : ℕ) → place + 1 ≤ i → i < length steps → (step_at steps i).arc ≢ a) → Waits new (slice_index dues a) a
waits-more all dues steps old new place kept added others a lt before none = elim (cases_eq (step_at steps place).arc a) [
  | inl same ↦ subst (λ n. Waits new (slice_index dues n) n) same (added (subst (λ n. slice_index dues n < all) (sym same) before))
  | inr other ↦ kept (slice_index dues a) a (others a lt before (λ i from within. elim (cases_eq i place) [
    | inl here ↦ subst (λ n. (step_at steps n).arc ≢ a) (sym here) other
    | inr later ↦ none i (omega arith) within
  ]))
]

-- counts that aren't turned wait where they did
pub waits-others : (all ticket : ℕ) (steps : List Step) (old new : List ℕ) (lists : List (List ℕ)) → AreTurned all ticket steps (length steps) old new → AreWaiting all old lists
    → (a : ℕ) → a < length new → slice_index new a < all → ((i : ℕ) → i < length steps → (step_at steps i).arc ≢ a) → Waits lists (slice_index new a) a
waits-others all ticket steps old new lists turned waiting a lt before none =
    let same : slice_index new a ≡ slice_index old a = turned.stay a none in
    subst (λ n. Waits lists n a) (sym same) (waiting.each a (omega (arith, lt, turned.long)) (omega (arith, same, before)))

-- ---- the least

-- where none of those that wait at a ticket is due, all are due later
pub later-than : (all : ℕ) (dues : List ℕ) (lists : List (List ℕ)) (ticket : ℕ) → AreWaiting all dues lists → ticket < all → ((a : ℕ) → a < length dues → ticket ≤ slice_index dues a)
    → ((a : ℕ) → Contains (slice_index_or lists ticket []) a → a < length dues → slice_index dues a ≢ ticket) → (a : ℕ) → a < length dues → ticket + 1 ≤ slice_index dues a
later-than all dues lists ticket waiting some after none a lt = elim (cases_eq (slice_index dues a) ticket) [
  | inl now ↦ absurd (none a (subst (λ t. Waits lists t a) now (waiting.each a lt (omega arith))) lt now)
  | inr other ↦ let least = after a lt in omega arith
]

-- ---- those that are due

-- the arcs of those that wait, up to a place, whose counts are due
pub record AreDueIn (dues waiting : List ℕ) (first ticket : ℕ) (arcs : List ℕ) : Type 0 where
  pub each : (j : ℕ) → j < length arcs → (slice_index arcs j < length dues) × (slice_index dues (slice_index arcs j) ≡ ticket)
  pub whole : (k : ℕ) → k < first → slice_index waiting k < length dues → slice_index dues (slice_index waiting k) ≡ ticket → (j : ℕ) × ((j < length arcs) × (slice_index arcs j ≡ slice_index waiting k))

pub due-none : (dues waiting : List ℕ) (ticket : ℕ) → AreDueIn dues waiting 0 ticket []
due-none dues waiting ticket = record { each = λ j lt. absurd (omega arith); whole = λ k lt within is. absurd (omega arith) }

pub due-more : (dues waiting : List ℕ) (first ticket : ℕ) (arcs : List ℕ) → AreDueIn dues waiting first ticket arcs → slice_index waiting first < length dues
    → slice_index dues (slice_index waiting first) ≡ ticket → AreDueIn dues waiting (first + 1) ticket (arcs ++ (slice_index waiting first ∷ []))
due-more dues waiting first ticket arcs are within is =
    let arc : ℕ = slice_index waiting first in
    let long = length_push arcs arc in
    record {
      each = λ j lt. elim (cases_lt j (length arcs)) [
        | inl before ↦
            let at : slice_index (arcs ++ (arc ∷ [])) j ≡ slice_index arcs j = get_or_append_left arcs (arc ∷ []) 0 j before in
            let old = are.each j before in
            (omega (arith, at, old.0), ap (λ a. slice_index dues a) at ∙ old.1)
        | inr last ↦
            let at : slice_index (arcs ++ (arc ∷ [])) j ≡ arc = get_or_push arcs arc 0 j (omega arith) in
            (omega (arith, at, within), ap (λ a. slice_index dues a) at ∙ is)
      ];
      whole = λ k lt inside now. elim (cases_eq k first) [
        | inl here ↦ (length arcs, (omega arith, get_or_push arcs arc 0 (length arcs) refl ∙ ap (λ n. slice_index waiting n) (sym here)))
        | inr other ↦
            let old = are.whole k (omega arith) inside now in
            (old.0, (let within = old.1.0 in omega arith, get_or_append_left arcs (arc ∷ []) 0 old.0 old.1.0 ∙ old.1.1))
      ];
    }

pub due-other_entry : (dues waiting : List ℕ) (first ticket : ℕ) (arcs : List ℕ) → AreDueIn dues waiting first ticket arcs
    → ((slice_index waiting first < length dues) × (slice_index dues (slice_index waiting first) ≡ ticket) → ⊥) → AreDueIn dues waiting (first + 1) ticket arcs
due-other_entry dues waiting first ticket arcs are other = record {
  each = are.each;
  whole = λ k lt inside now. elim (cases_eq k first) [
    | inl here ↦ absurd (other (subst (λ n. (slice_index waiting n < length dues) × (slice_index dues (slice_index waiting n) ≡ ticket)) here (inside, now)))
    | inr before ↦ are.whole k (omega arith) inside now
  ];
}

-- all of them, where all that are due wait
pub due-all : (dues waiting : List ℕ) (first ticket : ℕ) (arcs : List ℕ) → length waiting ≤ first → AreDueIn dues waiting first ticket arcs
    → ((a : ℕ) → a < length dues → slice_index dues a ≡ ticket → Contains waiting a) → AreDueArcs dues ticket arcs
due-all dues waiting first ticket arcs done are waits = record {
  each = are.each;
  whole = λ a lt now.
      let at = contains-at waiting a (waits a lt now) in
      let found = are.whole at.0 (let within = at.1.0 in omega arith) (omega (arith, at.1.1, lt)) (ap (λ n. slice_index dues n) at.1.1 ∙ now) in
      (found.0, (found.1.0, found.1.1 ∙ at.1.1));
}

-- in any order
pub due-sorted : (dues : List ℕ) (ticket : ℕ) (xs ys : List ℕ) → IsPermutation xs ys → AreDueArcs dues ticket xs → AreDueArcs dues ticket ys
due-sorted dues ticket xs ys moved are = record {
  each = λ j lt.
      let at = contains-at xs (slice_index ys j) (Contains-permutation ys xs (slice_index ys j) (IsPermutation-sym xs ys moved) (Contains-get_or ys j 0 lt)) in
      subst (λ n. (n < length dues) × (slice_index dues n ≡ ticket)) at.1.1 (are.each at.0 at.1.0);
  whole = λ a lt now.
      let found = are.whole a lt now in
      contains-at ys a (Contains-permutation xs ys a moved (at-contains xs a found.0 found.1.0 found.1.1));
}

-- ---- those that were turned

pub turned-none : (all ticket : ℕ) (steps : List Step) (dues : List ℕ) → AreTurned all ticket steps 0 dues dues
turned-none all ticket steps dues = record { long = refl; moved = λ i lt. absurd (omega arith); stay = λ a none. refl }

pub turned-more : (all ticket : ℕ) (steps : List Step) (count : ℕ) (old now : List ℕ) → AreTurned all ticket steps count old now → (step_at steps count).arc < length old
    → ((i : ℕ) → i < count → (step_at steps i).arc ≢ (step_at steps count).arc) → ticket ≤ slice_index old (step_at steps count).arc → slice_index old (step_at steps count).arc ≤ all
    → AreTurned all ticket steps (count + 1) old (slice_set now (step_at steps count).arc (ticket + (all - slice_index now (step_at steps count).arc)))
turned-more all ticket steps count old now turned within apart after before =
    let arc : ℕ = (step_at steps count).arc in
    let was : slice_index now arc ≡ slice_index old arc = turned.stay arc apart in
    let value : ℕ = ticket + (all - slice_index now arc) in
    record {
      long = length-set now arc value ∙ turned.long;
      moved = λ i lt. elim (cases_eq i count) [
        | inl here ↦
            let at : slice_index (slice_set now arc value) arc ≡ value = get_or-set_same now arc value 0 (omega (arith, within, turned.long)) in
            let sum : slice_index (slice_set now arc value) arc + slice_index old arc ≡ ticket + all = omega (arith, at, was, after, before) in
            subst (λ k. slice_index (slice_set now arc value) (step_at steps k).arc + slice_index old (step_at steps k).arc ≡ ticket + all) (sym here) sum
        | inr earlier ↦
            let at : slice_index (slice_set now arc value) (step_at steps i).arc ≡ slice_index now (step_at steps i).arc =
            get_or-set_other now arc (step_at steps i).arc value 0 (apart i (omega arith)) in
            omega (arith, at, turned.moved i (omega arith))
      ];
      stay = λ a none.
          get_or-set_other now arc a value 0 (λ same. none count (omega arith) (sym same)) ∙ turned.stay a (λ i lt. none i (omega arith));
    }

-- ---- those of the first counts

pub record AreDuesTo (all : ℕ) (amounts counts : List ℕ) (first : ℕ) (dues : List ℕ) : Type 0 where
  pub long : length dues ≡ first
  pub each : (a : ℕ) → a < first → slice_index dues a ≡ limit all (slice_index amounts a) (slice_index counts a)

pub dues-none : (all : ℕ) (amounts counts : List ℕ) → AreDuesTo all amounts counts 0 []
dues-none all amounts counts = record { long = refl; each = λ a lt. absurd (omega arith) }

pub dues-more : (all : ℕ) (amounts counts : List ℕ) (first : ℕ) (dues : List ℕ) (due : ℕ) → AreDuesTo all amounts counts first dues → due ≡ limit all (slice_index amounts first) (slice_index counts first)
    → AreDuesTo all amounts counts (first + 1) (dues ++ (due ∷ []))
dues-more all amounts counts first dues due are is = record {
  long = let push = length_push dues due in let long = are.long in omega arith;
  each = λ a lt. elim (cases_eq a first) [
    | inl here ↦ get_or_push dues due 0 a (let long = are.long in omega arith) ∙ is ∙ ap (λ k. limit all (slice_index amounts k) (slice_index counts k)) (sym here)
    | inr before ↦ get_or_append_left dues (due ∷ []) 0 a (let long = are.long in omega arith) ∙ are.each a (omega arith)
  ];
}
