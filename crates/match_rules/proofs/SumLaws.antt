-- Sums below a count.
use Rattle.std.proofs.Common.{◌≡◌, ℕ, zero, suc, ◌+◌, ◌<◌, ◌≤◌, ◌==◌, true, false, refl, sym, ap, arith, ◌⊎◌, inl, inr}
use Rattle.std.proofs.lemmas.Int.{ints}
use Rattle.std.proofs.lemmas.Bool.{cases_lt}
use Rattle.std.proofs.lemmas.Bool.Decides.{nat_tests}
use Rattle.std.specs.Prelude.{ℤ, pos, ◌+ℤ◌, ◌*ℤ◌, neg_ℤ, ◌≤ℤ◌}
use Rattle.match_rules.specs.Sums.{sum_below, count_below, int_when}
use Rattle.match_rules.proofs.Ints.{times_sum, times_zero}

le_cases : (m n : ℕ) → m < suc n → (m ≡ n) ⊎ (m < n)
le_cases m n h = elim (m == n) as (λ b. (m == n) ≡ b → (m ≡ n) ⊎ (m < n)) [
  | true ↦ λ t. inl (grind (arith, nat_tests))
  | false ↦ λ t. inr (grind (arith, nat_tests))
] refl

-- equal terms have equal sums
pub sum_below-same : (n : ℕ) (f g : ℕ → ℤ) → ((k : ℕ) → k < n → f k ≡ g k) → sum_below n f ≡ sum_below n g
sum_below-same zero f g same = refl
sum_below-same (suc n) f g same =
    let first : sum_below n f ≡ sum_below n g = sum_below-same n f g (λ k h. same k (omega arith)) in
    let last : f n ≡ g n = same n (omega arith) in
    omega (arith, ints)

pub sum_below-more : (n : ℕ) (f g : ℕ → ℤ) → ((k : ℕ) → k < n → f k ≤ℤ g k) → sum_below n f ≤ℤ sum_below n g
sum_below-more zero f g more = omega (arith, ints)
sum_below-more (suc n) f g more =
    let first : sum_below n f ≤ℤ sum_below n g = sum_below-more n f g (λ k h. more k (omega arith)) in
    let last : f n ≤ℤ g n = more n (omega arith) in
    omega (arith, ints)

pub sum_below-sum : (n : ℕ) (f g : ℕ → ℤ) → sum_below n (λ k. f k +ℤ g k) ≡ sum_below n f +ℤ sum_below n g
sum_below-sum zero f g = omega (arith, ints)
sum_below-sum (suc n) f g = let first = sum_below-sum n f g in omega (arith, ints)

pub sum_below-neg : (n : ℕ) (f : ℕ → ℤ) → sum_below n (λ k. neg_ℤ (f k)) ≡ neg_ℤ (sum_below n f)
sum_below-neg zero f = omega (arith, ints)
sum_below-neg (suc n) f = let first = sum_below-neg n f in omega (arith, ints)

pub sum_below-zero : (n : ℕ) (f : ℕ → ℤ) → ((k : ℕ) → k < n → f k ≡ pos 0) → sum_below n f ≡ pos 0
sum_below-zero zero f none = refl
sum_below-zero (suc n) f none =
    let first : sum_below n f ≡ pos 0 = sum_below-zero n f (λ k h. none k (omega arith)) in
    let last : f n ≡ pos 0 = none n (omega arith) in
    omega (arith, ints)

pub sum_below-times : (m n : ℕ) (f : ℕ → ℤ) → sum_below n (λ k. pos m *ℤ f k) ≡ pos m *ℤ sum_below n f
sum_below-times m zero f = sym (times_zero m)
sum_below-times m (suc n) f = let first = sum_below-times m n f in let step = times_sum m (sum_below n f) (f n) in omega (arith, ints)

pub sum_below-pos : (n : ℕ) (f : ℕ → ℕ) → sum_below n (λ k. pos (f k)) ≡ pos (count_below n f)
sum_below-pos zero f = refl
sum_below-pos (suc n) f = let first = sum_below-pos n f in omega (arith, ints)

-- equal addends have equal sums
pub count_below-same : (n : ℕ) (f g : ℕ → ℕ) → ((k : ℕ) → k < n → f k ≡ g k) → count_below n f ≡ count_below n g
count_below-same zero f g same = refl
count_below-same (suc n) f g same =
    let before : count_below n f ≡ count_below n g = count_below-same n f g (λ k h. same k (omega arith)) in
    let last : f n ≡ g n = same n (omega arith) in
    omega arith

-- a sum over fewer places is no greater
pub count_below-le : (n m : ℕ) (f : ℕ → ℕ) → m ≤ n → count_below m f ≤ count_below n f
count_below-le zero m f h = let none : m ≡ 0 = omega arith in rw none (omega arith)
count_below-le (suc n) m f h =
    elim (cases_lt m (suc n)) [
      | inl below ↦ (let step : count_below m f ≤ count_below n f = count_below-le n m f (omega arith) in omega arith)
      | inr above ↦ (let all : m ≡ suc n = omega arith in rw all (omega arith))
    ]

-- the indicators of a place that isn't below the count add nothing
sum_below-past : (n m : ℕ) (f : ℕ → ℤ) → n ≤ m → sum_below n (λ k. int_when (m == k) (f k)) ≡ pos 0
sum_below-past zero m f h = refl
sum_below-past (suc n) m f h =
    let first : sum_below n (λ k. int_when (m == k) (f k)) ≡ pos 0 = sum_below-past n m f (omega arith) in
    let no : (m == n) ≡ false = grind (arith, nat_tests) in
    let last : int_when (m == n) (f n) ≡ pos 0 = rw no refl in
    omega (arith, ints)

-- a value is the sum of its indicator times all values
pub sum_below-at : (n m : ℕ) (f : ℕ → ℤ) → m < n → f m ≡ sum_below n (λ k. int_when (m == k) (f k))
sum_below-at zero m f h = absurd (omega arith)
sum_below-at (suc n) m f h = elim (le_cases m n h) [
  | inl e ↦
      let first : sum_below n (λ k. int_when (m == k) (f k)) ≡ pos 0 = sum_below-past n m f (omega arith) in
      let yes : (m == n) ≡ true = grind (arith, nat_tests) in
      let last : int_when (m == n) (f n) ≡ f n = rw yes refl in
      let same : f m ≡ f n = ap f e in
      omega (arith, ints)
  | inr below ↦
      let first : f m ≡ sum_below n (λ k. int_when (m == k) (f k)) = sum_below-at n m f below in
      let no : (m == n) ≡ false = grind (arith, nat_tests) in
      let last : int_when (m == n) (f n) ≡ pos 0 = rw no refl in
      omega (arith, ints)
]

-- one more term, as at a step of a loop
pub sum_below_next : (n : ℕ) (f : ℕ → ℤ) → sum_below (n + 1) f ≡ sum_below n f +ℤ f n
sum_below_next n f = let e : n + 1 ≡ suc n = omega arith in rw e refl

pub count_below_next : (n : ℕ) (f : ℕ → ℕ) → count_below (n + 1) f ≡ count_below n f + f n
count_below_next n f = let e : n + 1 ≡ suc n = omega arith in rw e refl
