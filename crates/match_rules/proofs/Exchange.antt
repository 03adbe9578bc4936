-- Sums over the members of a list, and sums over what they count.
use Rattle.std.proofs.Common.{◌≡◌, ℕ, suc, ◌+◌, Bool, true, false, cond, List, [], ◌∷◌, refl, sym, ◌∙◌, ap, arith}
use Rattle.std.proofs.lemmas.Int.{ints}
use Rattle.std.proofs.lemmas.List.Sums.{sum_by-cons}
use Rattle.std.proofs.Math.IntN.{zero-*ℤ}
use Rattle.std.specs.Prelude.{All, count_by, ℤ, pos, ◌+ℤ◌, ◌*ℤ◌}
use Rattle.match_rules.specs.Sums.{sum_below, int_when}
use Rattle.match_rules.proofs.Ints.{suc_times, sum_times}
use Rattle.match_rules.proofs.SumLaws.{sum_below-same, sum_below-sum, sum_below-zero}

-- the sum of a value over the members of a list
abbrev pub sum_of : (ℕ → ℤ) → List ℕ → ℤ
sum_of value [] = pos 0
sum_of value (e ∷ places) = value e +ℤ sum_of value places

pub sum_of-sum : (f g : ℕ → ℤ) (places : List ℕ) → sum_of (λ e. f e +ℤ g e) places ≡ sum_of f places +ℤ sum_of g places
sum_of-sum f g [] = omega (arith, ints)
sum_of-sum f g (e ∷ places) = let rest = sum_of-sum f g places in omega (arith, ints)

-- what holds of all holds of the first and of the others
pub all_first : {X : Type 0} (P : X → Type 0) (x : X) (xs : List X) → All P (x ∷ xs) → P x
all_first P x xs all = all 0 x (omega arith)

pub all_others : {X : Type 0} (P : X → Type 0) (x : X) (xs : List X) → All P (x ∷ xs) → All P xs
all_others P x xs all k d h = all (suc k) d (omega arith)

-- the count of one more member
pub count_by-first : (test : ℕ → Bool) (e : ℕ) (places : List ℕ) (z : ℤ)
    → pos (count_by test (e ∷ places)) *ℤ z ≡ int_when (test e) z +ℤ (pos (count_by test places) *ℤ z)
count_by-first test e places z =
    let split : count_by test (e ∷ places) ≡ cond (test e) 1 0 + count_by test places = sum_by-cons (λ x. cond (test x) 1 0) e places in
    let one : (b : Bool) → pos (cond b 1 0) *ℤ z ≡ int_when b z = λ b. elim b as (λ b. pos (cond b 1 0) *ℤ z ≡ int_when b z) [
      | true ↦ omega (arith, ints, suc_times 0 z, zero-*ℤ z)
      | false ↦ zero-*ℤ z
    ] in
    rw split (sum_times (cond (test e) 1 0) (count_by test places) z ∙ ap (λ y. y +ℤ (pos (count_by test places) *ℤ z)) (one (test e)))

-- where each member gives the values of what it counts for, all members together give each value as often as they
-- count for it
pub exchange : (n : ℕ) (f : ℕ → ℤ) (test : ℕ → ℕ → Bool) (value : ℕ → ℤ) (places : List ℕ)
    → All (λ e. value e ≡ sum_below n (λ k. int_when (test k e) (f k))) places
    → sum_of value places ≡ sum_below n (λ k. pos (count_by (test k) places) *ℤ f k)
exchange n f test value [] each = sym (sum_below-zero n (λ k. pos 0 *ℤ f k) (λ k h. zero-*ℤ (f k)))
exchange n f test value (e ∷ places) each =
    let others : sum_of value places ≡ sum_below n (λ k. pos (count_by (test k) places) *ℤ f k) =
    exchange n f test value places (all_others (λ e. value e ≡ sum_below n (λ k. int_when (test k e) (f k))) e places each) in
    let first : value e ≡ sum_below n (λ k. int_when (test k e) (f k)) =
    all_first (λ e. value e ≡ sum_below n (λ k. int_when (test k e) (f k))) e places each in
    let both : sum_below n (λ k. int_when (test k e) (f k) +ℤ (pos (count_by (test k) places) *ℤ f k))
    ≡ sum_below n (λ k. int_when (test k e) (f k)) +ℤ sum_below n (λ k. pos (count_by (test k) places) *ℤ f k) =
    sum_below-sum n (λ k. int_when (test k e) (f k)) (λ k. pos (count_by (test k) places) *ℤ f k) in
    let counted : sum_below n (λ k. pos (count_by (test k) (e ∷ places)) *ℤ f k)
    ≡ sum_below n (λ k. int_when (test k e) (f k) +ℤ (pos (count_by (test k) places) *ℤ f k)) =
    sum_below-same n (λ k. pos (count_by (test k) (e ∷ places)) *ℤ f k)
    (λ k. int_when (test k e) (f k) +ℤ (pos (count_by (test k) places) *ℤ f k))
    (λ k h. count_by-first (test k) e places (f k)) in
    omega (arith, ints)

pub sum_of-same : (f g : ℕ → ℤ) → ((e : ℕ) → f e ≡ g e) → (places : List ℕ) → sum_of f places ≡ sum_of g places
sum_of-same f g same [] = refl
sum_of-same f g same (e ∷ places) = let first = same e in let rest = sum_of-same f g same places in omega (arith, ints)
