-- Lists of amounts at a step.
use Rattle.std.proofs.Common.{◌≡◌, ℕ, zero, suc, ◌+◌, ◌*◌, ◌<◌, ◌≤◌, List, length, arith, inl, inr}
use Rattle.std.specs.Prelude.{slice_index}
use Rattle.std.proofs.lemmas.Bool.{cases_eq}
use Rattle.match_rules.specs.Sums.{count_below}
use Rattle.bounded_network.specs.Spans.{rounded}
use Rattle.lottery_peel.specs.Peeling.{open_part, open_count, AreRounded, IsWeight, AreLess, IsNarrower}
use Rattle.lottery_peel.proofs.OneAmount.{IsStep, IsSettled, narrower-next, nothing-left, settled-next, enough}

-- amounts with counts that stand for as many tickets as they may, the tickets that are left then, and the new amounts
pub record AreSteps (left : ℕ) (amounts counts : List ℕ) (weight next : ℕ) (new : List ℕ) : Type 0 where
  pub some : 1 ≤ left
  pub rounds : AreRounded left amounts counts
  pub weighs : IsWeight left amounts counts (length amounts) weight
  pub less : AreLess amounts counts new weight
  pub tickets : next + weight ≡ left

pub step-at : (left : ℕ) (amounts counts : List ℕ) (weight next : ℕ) (new : List ℕ) → AreSteps left amounts counts weight next new → (a : ℕ) → a < length amounts
    → IsStep left (slice_index amounts a) (slice_index counts a) weight next (slice_index new a)
step-at left amounts counts weight next new steps a lt = record {
  some = steps.some;
  tickets = steps.tickets;
  less = steps.less.each a lt;
  between = steps.rounds.each a lt;
  within = steps.weighs.within a lt;
}

-- bounds narrow
pub all-narrower : (left : ℕ) (amounts counts : List ℕ) (weight next : ℕ) (new : List ℕ) → AreSteps left amounts counts weight next new → 1 ≤ next → (a : ℕ) → a < length amounts
    → IsNarrower (rounded left (slice_index amounts a)) (rounded next (slice_index new a))
all-narrower left amounts counts weight next new steps some a lt =
    narrower-next left (slice_index amounts a) (slice_index counts a) weight next (slice_index new a) (step-at left amounts counts weight next new steps a lt) some

-- where no ticket is left, nothing is
pub all-nothing : (left : ℕ) (amounts counts : List ℕ) (weight next : ℕ) (new : List ℕ) → AreSteps left amounts counts weight next new → next ≡ 0 → (a : ℕ) → a < length amounts
    → slice_index new a ≡ 0
all-nothing left amounts counts weight next new steps none a lt =
    nothing-left left (slice_index amounts a) (slice_index counts a) weight next (slice_index new a) (step-at left amounts counts weight next new steps a lt) none

-- there is enough of each amount
pub all-enough : (left : ℕ) (amounts counts : List ℕ) (weight : ℕ) → AreRounded left amounts counts → IsWeight left amounts counts (length amounts) weight → (a : ℕ) → a < length amounts
    → weight * slice_index counts a ≤ slice_index amounts a
all-enough left amounts counts weight rounds weighs a lt =
    enough left (slice_index amounts a) (slice_index counts a) weight (rounds.each a lt) weighs.most (weighs.within a lt)

-- the amount that limits the weight, where tickets are left
pub record IsLimiting (left : ℕ) (amounts counts : List ℕ) (next : ℕ) (new : List ℕ) (a : ℕ) : Type 0 where
  pub within : a < length amounts
  pub settled : IsSettled left (slice_index amounts a) (slice_index counts a) next (slice_index new a)

pub limiting : (left : ℕ) (amounts counts : List ℕ) (weight next : ℕ) (new : List ℕ) → AreSteps left amounts counts weight next new → 1 ≤ next
    → (a : ℕ) × IsLimiting left amounts counts next new a
limiting left amounts counts weight next new steps some = elim steps.weighs.reached [
  | inl all ↦ absurd (let tickets = steps.tickets in omega arith)
  | inr at ↦ (
    at.0,
    record {
      within = at.1.0;
      settled = settled-next left (slice_index amounts at.0) (slice_index counts at.0) weight next (slice_index new at.0) (step-at left amounts counts weight next new steps at.0 at.1.0) some at.1.1;
    },
  )
]

-- a sum of which a term is less, and none more
count_below-le : (n : ℕ) (f g : ℕ → ℕ) → ((k : ℕ) → k < n → f k ≤ g k) → count_below n f ≤ count_below n g
count_below-le zero f g le = omega arith
count_below-le (suc n) f g le = omega (arith, count_below-le n f g (λ k lt. le k (omega arith)), le n (omega arith))

count_below-lt : (n : ℕ) (f g : ℕ → ℕ) (a : ℕ) → ((k : ℕ) → k < n → f k ≤ g k) → a < n → f a < g a → count_below n f < count_below n g
count_below-lt zero f g a le lt less = absurd (omega arith)
count_below-lt (suc n) f g a le lt less = elim (cases_eq a n) [
  | inl same ↦
      let last : f n < g n = rw same at less in
      omega (arith, count_below-le n f g (λ k b. le k (omega arith)))
  | inr other ↦ omega (arith, count_below-lt n f g a (λ k b. le k (omega arith)) (omega arith) less, le n (omega arith))
]

-- bounds that narrow are open no more often
narrower-open : (left amount next new : ℕ) → IsNarrower (rounded left amount) (rounded next new) → open_part next new ≤ open_part left amount
narrower-open left amount next new narrow = omega (arith, narrow.0, narrow.1)

-- an amount fewer is open
pub open-less : (left : ℕ) (amounts counts : List ℕ) (weight next : ℕ) (new : List ℕ) → AreSteps left amounts counts weight next new → 1 ≤ next
    → 1 + open_count next new ≤ open_count left amounts
open-less left amounts counts weight next new steps some =
    let f : ℕ → ℕ = λ a. open_part next (slice_index new a) in
    let g : ℕ → ℕ = λ a. open_part left (slice_index amounts a) in
    let at = limiting left amounts counts weight next new steps some in
    let fewer : (k : ℕ) → k < length amounts → f k ≤ g k =
    λ k lt. narrower-open left (slice_index amounts k) next (slice_index new k) (all-narrower left amounts counts weight next new steps some k lt) in
    let one : count_below (length amounts) f < count_below (length amounts) g =
    count_below-lt (length amounts) f g at.0 fewer at.1.within (omega (arith, at.1.settled.was, at.1.settled.is)) in
    rw steps.less.long (omega arith)

-- counts of a later step are other counts
pub never-again : (left : ℕ) (amounts counts : List ℕ) (weight next : ℕ) (new : List ℕ) → AreSteps left amounts counts weight next new → 1 ≤ next
    → AreRounded next new counts → ⊥
never-again left amounts counts weight next new steps some rounds =
    let at = limiting left amounts counts weight next new steps some in
    at.1.settled.out (rounds.each at.0 (let long = steps.less.long in let within = at.1.within in omega arith))

-- counts of a later step are rounded amounts of this one too
pub rounded-before : (left : ℕ) (amounts : List ℕ) (next : ℕ) (new counts : List ℕ) → length new ≡ length amounts
    → ((a : ℕ) → a < length amounts → IsNarrower (rounded left (slice_index amounts a)) (rounded next (slice_index new a)))
    → AreRounded next new counts → AreRounded left amounts counts
rounded-before left amounts next new counts same narrow rounds = record {
  long = let long = rounds.long in omega arith;
  each = λ a lt.
      let tight = rounds.each a (omega arith) in
      let wide = narrow a lt in
      (omega (arith, tight.0, wide.0), omega (arith, tight.1, wide.1));
}
