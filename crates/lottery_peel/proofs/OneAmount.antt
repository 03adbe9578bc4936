-- One amount at a step: its count stands for some tickets, and what it takes is taken off.
use Rattle.std.proofs.Common.{◌≡◌, ℕ, zero, suc, ◌+◌, ◌-◌, ◌*◌, ◌/◌, ◌%◌, ◌<◌, ◌≤◌, min, false, refl, arith, ◌⊎◌, inl, inr}
use Rattle.std.specs.Prelude.{◌==◌, if◌then◌else◌}
use Rattle.std.proofs.lemmas.Bool.{cases_eq, eq-eqb, ne_eqb}
use Rattle.std.proofs.lemmas.Nat.{div-mul-add, mod-mul-add}
use Rattle.std.proofs.Math.Nat.{div-add-mod, mul-le-mul_right}
use Rattle.bounded_network.specs.Spans.{IsBetween, rounded}
use Rattle.lottery_peel.specs.Peeling.{open_part, limit, IsNarrower}

-- an amount and its count, some tickets for which the count may stand, the tickets that are left then, and what is left
-- of the amount
pub record IsStep (left amount count weight next new : ℕ) : Type 0 where
  pub some : 1 ≤ left
  pub tickets : next + weight ≡ left
  pub less : new + weight * count ≡ amount
  pub between : IsBetween (rounded left amount) count
  pub within : weight ≤ limit left amount count

-- a multiple keeps its count; an amount that is rounded down keeps what is over; one that is rounded up gives from it
pub record IsWhole (q f left count next new : ℕ) : Type 0 where
  pub over : f ≡ 0
  pub count_is : count ≡ q
  pub new_is : new ≡ q * next

pub record IsDown (q f left count next new : ℕ) : Type 0 where
  pub over : 1 ≤ f
  pub count_is : count ≡ q
  pub fits : f ≤ next
  pub new_is : new ≡ q * next + f

pub record IsUp (q f left count weight next new : ℕ) : Type 0 where
  pub over : 1 ≤ f
  pub count_is : count ≡ q + 1
  pub fits : weight ≤ f
  pub new_is : new + weight ≡ q * next + f

abbrev pub IsOneOfThree : ℕ → ℕ → ℕ → ℕ → ℕ → ℕ → ℕ → Type 0
IsOneOfThree q f left count weight next new =
    IsWhole q f left count next new
    ⊎ (IsDown q f left count next new ⊎ IsUp q f left count weight next new)

-- for how many tickets a count may stand, by what is over
abbrev limit_by : ℕ → ℕ → ℕ → ℕ → ℕ
limit_by q f left count = if f == 0 then left else (if count == q then (left - f) else f)

three-by : (left amount count weight next new q f : ℕ) → next + weight ≡ left → left * q + f ≡ amount → f < left → new + weight * count ≡ amount
    → q ≤ count → count ≤ q + min 1 f → weight ≤ limit_by q f left count → IsOneOfThree q f left count weight next new
three-by left amount count weight next new q zero tickets whole below less low high within =
    let same : count ≡ q = omega arith in
    let taken : new + weight * q ≡ amount = rw same at less in
    let all : (next + weight) * q + 0 ≡ amount = rw (← tickets) at whole in
    inl (record { over = refl; count_is = same; new_is = omega arith })
three-by left amount count weight next new q (suc f) tickets whole below less low high within =
    let all : (next + weight) * q + suc f ≡ amount = rw (← tickets) at whole in
    let some : (suc f == 0) ≡ false = ne_eqb (suc f) 0 (λ none. absurd (omega arith)) in
    elim (cases_eq count q) [
      | inl same ↦
          let taken : new + weight * q ≡ amount = rw same at less in
          let most : weight ≤ left - suc f = rw (some, eq-eqb count q same) at within in
          inr (inl (record { over = omega arith; count_is = same; fits = omega arith; new_is = omega arith }))
      | inr other ↦
          let up : count ≡ q + 1 = omega arith in
          let taken : new + weight * (q + 1) ≡ amount = rw up at less in
          let most : weight ≤ suc f = rw (some, ne_eqb count q other) at within in
          inr (inr (record { over = omega arith; count_is = up; fits = most; new_is = omega arith }))
    ]

pub three : (left amount count weight next new : ℕ) → IsStep left amount count weight next new
    → IsOneOfThree (amount / left) (amount % left) left count weight next new
three left amount count weight next new step =
    let some : 1 ≤ left = step.some in
    let below : amount % left < left = omega arith in
    three-by left amount count weight next new (amount / left) (amount % left) step.tickets (div-add-mod amount left) below step.less step.between.0 step.between.1 step.within

-- the quotient and what is over
pub parts : (amount left q f : ℕ) → amount ≡ q * left + f → f < left → (amount / left ≡ q) × (amount % left ≡ f)
parts amount left q f e lt = rw e (div-mul-add q left f lt, mod-mul-add q left f lt)

-- amounts that are whole, and amounts with something over
whole-parts : (amount left q : ℕ) → 1 ≤ left → amount ≡ q * left → (amount / left ≡ q) × (amount % left ≡ 0)
whole-parts amount left q some e = parts amount left q 0 (omega arith) some

-- the bounds of an amount lie within those of the step before: they stay where something is over, and else are one of them
narrower-by : (q f left count weight next new : ℕ) → IsOneOfThree q f left count weight next new → 1 ≤ next → f < left → next + weight ≡ left
    → (q ≤ new / next) × (new / next + min 1 (new % next) ≤ q + min 1 f)
narrower-by q f left count weight next new (inl step) some below tickets =
    let are = whole-parts new next q some step.new_is in
    omega (arith, are, step.over)
narrower-by q f left count weight next new (inr (inl step)) some below tickets =
    elim (cases_eq f next) [
      | inl same ↦
          let are = whole-parts new next (q + 1) some (let is = step.new_is in omega arith) in
          omega (arith, are, step.over)
      | inr other ↦
          let are = parts new next q f step.new_is (let fits = step.fits in omega arith) in
          omega (arith, are, step.over)
    ]
narrower-by q f left count weight next new (inr (inr step)) some below tickets =
    let are = parts new next q (f - weight) (omega arith) (omega arith) in
    omega (arith, are, step.over)

pub narrower-next : (left amount count weight next new : ℕ) → IsStep left amount count weight next new → 1 ≤ next
    → IsNarrower (rounded left amount) (rounded next new)
narrower-next left amount count weight next new step some =
    let positive : 1 ≤ left = step.some in
    let below : amount % left < left = omega arith in
    narrower-by (amount / left) (amount % left) left count weight next new (three left amount count weight next new step) some below step.tickets

-- where no ticket is left, nothing is
nothing-by : (q f left count weight next new : ℕ) → IsOneOfThree q f left count weight next new → next ≡ 0 → f < left → next + weight ≡ left → new ≡ 0
nothing-by q f left count weight next new (inl step) none below tickets =
    let zero_times : q * next ≡ 0 = rw none (omega arith) in
    omega (arith, step.new_is)
nothing-by q f left count weight next new (inr (inl step)) none below tickets = absurd (omega (arith, step.fits, step.over))
nothing-by q f left count weight next new (inr (inr step)) none below tickets = absurd (omega (arith, step.fits))

pub nothing-left : (left amount count weight next new : ℕ) → IsStep left amount count weight next new → next ≡ 0 → new ≡ 0
nothing-left left amount count weight next new step none =
    let positive : 1 ≤ left = step.some in
    let below : amount % left < left = omega arith in
    nothing-by (amount / left) (amount % left) left count weight next new (three left amount count weight next new step) none below step.tickets

-- an amount whose count stands for as many tickets as it may, though not for all, was open, is whole afterwards, and has
-- this count no more
pub record IsSettled (left amount count next new : ℕ) : Type 0 where
  pub was : open_part left amount ≡ 1
  pub is : open_part next new ≡ 0
  pub out : IsBetween (rounded next new) count → ⊥

settled-by : (q f left count weight next new : ℕ) → IsOneOfThree q f left count weight next new → 1 ≤ next → f < left → next + weight ≡ left
    → weight ≡ limit_by q f left count
    → (min 1 f ≡ 1) × (min 1 (new % next) ≡ 0) × (new / next ≤ count → count ≤ new / next + min 1 (new % next) → ⊥)
settled-by q f left count weight next new (inl step) some below tickets at =
    let most : weight ≡ left = rw (eq-eqb f 0 step.over) at at in
    absurd (omega arith)
settled-by q f left count weight next new (inr (inl step)) some below tickets at =
    let over : (f == 0) ≡ false = ne_eqb f 0 (λ none. absurd (let more = step.over in omega arith)) in
    let most : weight ≡ left - f = rw (over, eq-eqb count q step.count_is) at at in
    let are = whole-parts new next (q + 1) some (let is = step.new_is in let same : f ≡ next = omega arith in omega arith) in
    (omega (arith, step.over), omega (arith, are), λ low high. absurd (omega (arith, are, step.count_is)))
settled-by q f left count weight next new (inr (inr step)) some below tickets at =
    let over : (f == 0) ≡ false = ne_eqb f 0 (λ none. absurd (let more = step.over in omega arith)) in
    let most : weight ≡ f = rw (over, ne_eqb count q (λ same. absurd (let up = step.count_is in omega arith))) at at in
    let are = whole-parts new next q some (let is = step.new_is in omega arith) in
    (omega (arith, step.over), omega (arith, are), λ low high. absurd (omega (arith, are, step.count_is)))

pub settled-next : (left amount count weight next new : ℕ) → IsStep left amount count weight next new → 1 ≤ next → weight ≡ limit left amount count
    → IsSettled left amount count next new
settled-next left amount count weight next new step some at =
    let positive : 1 ≤ left = step.some in
    let below : amount % left < left = omega arith in
    let settled = settled-by (amount / left) (amount % left) left count weight next new (three left amount count weight next new step) some below step.tickets at in
    record { was = settled.0; is = settled.1; out = λ between. settled.2 between.0 between.1 }

-- there is enough of an amount for its count
enough-by : (q f left amount count weight : ℕ) → left * q + f ≡ amount → weight ≤ left → q ≤ count → count ≤ q + min 1 f → weight ≤ limit_by q f left count → weight * count ≤ amount
enough-by q zero left amount count weight whole most low high within =
    let same : count ≡ q = omega arith in
    let less : weight * q ≤ left * q = mul-le-mul_right q most in
    rw same (omega arith)
enough-by q (suc f) left amount count weight whole most low high within =
    let over : (suc f == 0) ≡ false = ne_eqb (suc f) 0 (λ none. absurd (omega arith)) in
    let less : weight * q ≤ left * q = mul-le-mul_right q most in
    elim (cases_eq count q) [
      | inl same ↦ rw same (omega arith)
      | inr other ↦
          let up : count ≡ q + 1 = omega arith in
          let few : weight ≤ suc f = rw (over, ne_eqb count q other) at within in
          rw up (omega arith)
    ]

pub enough : (left amount count weight : ℕ) → IsBetween (rounded left amount) count → weight ≤ left → weight ≤ limit left amount count → weight * count ≤ amount
enough left amount count weight between most within =
    enough-by (amount / left) (amount % left) left amount count weight (div-add-mod amount left) most between.0 between.1 within
