-- Counts below a number, of what stands at a node.
use Rattle.std.proofs.Common.{◌≡◌, ℕ, zero, suc, ◌+◌, ◌<◌, Bool, true, false, refl, sym, ◌∙◌, arith, inl, inr}
use Rattle.std.specs.Prelude.{◌==◌}
use Rattle.std.proofs.lemmas.Bool.{cases_eq}
use Rattle.match_rules.specs.Sums.{count_below, when}
use Rattle.bounded_network.proofs.Sums.{count_below-equal, when-same, when-other}

pub count_below-zero : (n : ℕ) (f : ℕ → ℕ) → ((i : ℕ) → i < n → f i ≡ 0) → count_below n f ≡ 0
count_below-zero zero f none = refl
count_below-zero (suc n) f none = omega (arith, count_below-zero n f (λ i lt. none i (omega arith)), none n (omega arith))

pub count_below-sum : (n : ℕ) (f g : ℕ → ℕ) → count_below n (λ i. f i + g i) ≡ count_below n f + count_below n g
count_below-sum zero f g = refl
count_below-sum (suc n) f g = omega (arith, count_below-sum n f g)

-- the sums of rows are the sums of columns
pub count_exchange : (n m : ℕ) (f : ℕ → ℕ → ℕ) → count_below n (λ i. count_below m (f i)) ≡ count_below m (λ j. count_below n (λ i. f i j))
count_exchange zero m f = sym (count_below-zero m (λ j. 0) (λ j lt. refl))
count_exchange (suc n) m f =
    omega (arith, count_exchange n m f, count_below-sum m (λ j. count_below n (λ i. f i j)) (f n))

-- nothing stands at a node at which no end is
pub none_there : (n v : ℕ) (h x : ℕ → ℕ) → ((i : ℕ) → i < n → h i ≡ v → ⊥) → count_below n (λ i. when (h i == v) (x i)) ≡ 0
none_there n v h x apart = count_below-zero n (λ i. when (h i == v) (x i)) (λ i lt. when-other (h i) v (x i) (apart i lt))

-- one amount of several at nodes in a row
pub one_there : (n base v : ℕ) (x : ℕ → ℕ) → v < n → count_below n (λ i. when ((base + i) == (base + v)) (x i)) ≡ x v
one_there zero base v x lt = absurd (omega arith)
one_there (suc n) base v x lt = elim (cases_eq v n) [
  | inl e ↦
      let before : count_below n (λ i. when ((base + i) == (base + v)) (x i)) ≡ 0 =
      none_there n (base + v) (λ i. base + i) x (λ i b q. absurd (omega arith)) in
      let here : when ((base + n) == (base + v)) (x n) ≡ x v = rw e (when-same (base + n) (x n)) in
      omega (arith, before, here)
  | inr ne ↦
      let here : when ((base + n) == (base + v)) (x n) ≡ 0 = when-other (base + n) (base + v) (x n) (λ q. ne (omega arith)) in
      omega (arith, one_there n base v x (omega arith), here)
]

-- the same from 0
pub one_of : (n v : ℕ) (x : ℕ → ℕ) → v < n → count_below n (λ i. when (i == v) (x i)) ≡ x v
one_of zero v x lt = absurd (omega arith)
one_of (suc n) v x lt = elim (cases_eq v n) [
  | inl e ↦
      let before : count_below n (λ i. when (i == v) (x i)) ≡ 0 = none_there n v (λ i. i) x (λ i b q. absurd (omega arith)) in
      let here : when (n == v) (x n) ≡ x v = rw e (when-same n (x n)) in
      omega (arith, before, here)
  | inr ne ↦
      let here : when (n == v) (x n) ≡ 0 = when-other n v (x n) (λ q. ne (sym q)) in
      omega (arith, one_of n v x (omega arith), here)
]

-- an amount counts once, at its own place
pub one_place : (n e : ℕ) (f : ℕ → ℕ) → e < n → count_below n (λ v. when (e == v) (f v)) ≡ f e
one_place zero e f lt = absurd (omega arith)
one_place (suc n) e f lt = elim (cases_eq e n) [
  | inl q ↦
      let before : count_below n (λ v. when (e == v) (f v)) ≡ 0 =
      count_below-zero n (λ v. when (e == v) (f v)) (λ v b. when-other e v (f v) (λ s. absurd (omega arith))) in
      let here : when (e == n) (f n) ≡ f e = rw q (when-same n (f n)) in
      omega (arith, before, here)
  | inr ne ↦
      let here : when (e == n) (f n) ≡ 0 = when-other e n (f n) ne in
      omega (arith, one_place n e f (omega arith), here)
]

-- all stand at one node
pub all_there : (n v : ℕ) (x : ℕ → ℕ) → count_below n (λ i. when (v == v) (x i)) ≡ count_below n x
all_there n v x = count_below-equal n (λ i. when (v == v) (x i)) x (λ i lt. when-same v (x i))

-- the amounts at all nodes are all amounts
pub at_all_nodes : (n m : ℕ) (h x : ℕ → ℕ) → ((i : ℕ) → i < m → h i < n) → count_below n (λ v. count_below m (λ i. when (h i == v) (x i))) ≡ count_below m x
at_all_nodes n m h x below =
    count_exchange n m (λ v i. when (h i == v) (x i))
    ∙ count_below-equal m (λ i. count_below n (λ v. when (h i == v) (x i))) x (λ i lt. one_place n (h i) (λ v. x i) (below i lt))

-- a test over a sum
pub when-count : (n : ℕ) (b : Bool) (f : ℕ → ℕ) → when b (count_below n f) ≡ count_below n (λ i. when b (f i))
when-count n true f = refl
when-count n false f = sym (count_below-zero n (λ i. 0) (λ i lt. refl))

pub when-zero : (b : Bool) → when b 0 ≡ 0
when-zero true = refl
when-zero false = refl

pub when-swap : (a b : Bool) (x : ℕ) → when a (when b x) ≡ when b (when a x)
when-swap true b x = refl
when-swap false b x = sym (when-zero b)
