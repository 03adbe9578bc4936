-- Sums below a count.
use Rattle.std.proofs.Common.{◌≡◌, ℕ, zero, suc, ◌+◌, ◌*◌, ◌<◌, ◌≤◌, refl, sym, arith, inl, inr}
use Rattle.std.specs.Prelude.{ℤ, pos, ◌+ℤ◌, ◌-ℤ◌, ◌*ℤ◌, ◌≤ℤ◌, ◌==◌}
use Rattle.std.proofs.lemmas.Int.{ints}
use Rattle.std.proofs.lemmas.Bool.{eq-eqb, ne_eqb, cases_eq}
use Rattle.std.proofs.Math.IntN.{zero-*ℤ}
use Rattle.match_rules.specs.Sums.{sum_below, count_below, when}
use Rattle.bounded_network.proofs.Scaled.{scale_by_sum}

-- equal terms, equal sums
pub sum_below-equal : (n : ℕ) (f g : ℕ → ℤ) → ((v : ℕ) → v < n → f v ≡ g v) → sum_below n f ≡ sum_below n g
sum_below-equal zero f g h = refl
sum_below-equal (suc n) f g h =
    omega (arith, ints, sum_below-equal n f g (λ v lt. h v (omega arith)), h n (omega arith))

pub count_below-equal : (n : ℕ) (f g : ℕ → ℕ) → ((v : ℕ) → v < n → f v ≡ g v) → count_below n f ≡ count_below n g
count_below-equal zero f g h = refl
count_below-equal (suc n) f g h =
    omega (arith, count_below-equal n f g (λ v lt. h v (omega arith)), h n (omega arith))

-- lesser terms, a lesser sum
pub sum_below-le : (n : ℕ) (f g : ℕ → ℤ) → ((v : ℕ) → v < n → f v ≤ℤ g v) → sum_below n f ≤ℤ sum_below n g
sum_below-le zero f g h = omega (arith, ints)
sum_below-le (suc n) f g h =
    omega (arith, ints, sum_below-le n f g (λ v lt. h v (omega arith)), h n (omega arith))

pub sum_below-zero : (n : ℕ) (f : ℕ → ℤ) → ((v : ℕ) → v < n → f v ≡ pos 0) → sum_below n f ≡ pos 0
sum_below-zero zero f h = refl
sum_below-zero (suc n) f h =
    omega (arith, ints, sum_below-zero n f (λ v lt. h v (omega arith)), h n (omega arith))

-- the sum of sums, and of differences
pub sum_below-+ℤ : (n : ℕ) (f g : ℕ → ℤ) → sum_below n (λ v. f v +ℤ g v) ≡ sum_below n f +ℤ sum_below n g
sum_below-+ℤ zero f g = refl
sum_below-+ℤ (suc n) f g = omega (arith, ints, sum_below-+ℤ n f g)

pub sum_below--ℤ : (n : ℕ) (f g : ℕ → ℤ) → sum_below n (λ v. f v -ℤ g v) ≡ sum_below n f -ℤ sum_below n g
sum_below--ℤ zero f g = refl
sum_below--ℤ (suc n) f g = omega (arith, ints, sum_below--ℤ n f g)

-- a sum of naturals, with signs
pub sum_below-pos : (n : ℕ) (f : ℕ → ℕ) → sum_below n (λ v. pos (f v)) ≡ pos (count_below n f)
sum_below-pos zero f = refl
sum_below-pos (suc n) f = omega (arith, ints, sum_below-pos n f)

-- no term is above the sum's share
pub count_below-at_most : (n : ℕ) (f : ℕ → ℕ) (most : ℕ) → ((v : ℕ) → v < n → f v ≤ most) → count_below n f ≤ n * most
count_below-at_most zero f most h = omega arith
count_below-at_most (suc n) f most h =
    let e : suc n * most ≡ n * most + most = omega arith in
    rw e (omega (arith, count_below-at_most n f most (λ v lt. h v (omega arith)), h n (omega arith)))

-- a sum with a term above 0, and none below, is above 0
pub sum_below-not_negative : (n : ℕ) (f : ℕ → ℤ) → ((v : ℕ) → v < n → pos 0 ≤ℤ f v) → pos 0 ≤ℤ sum_below n f
sum_below-not_negative zero f h = omega (arith, ints)
sum_below-not_negative (suc n) f h =
    omega (arith, ints, sum_below-not_negative n f (λ v lt. h v (omega arith)), h n (omega arith))

pub term_le_sum : (n : ℕ) (f : ℕ → ℤ) (s : ℕ) → ((v : ℕ) → v < n → pos 0 ≤ℤ f v) → s < n → f s ≤ℤ sum_below n f
term_le_sum zero f s h lt = absurd (omega arith)
term_le_sum (suc n) f s h lt = elim (cases_eq s n) [
  | inl e ↦ rw e (omega (arith, ints, sum_below-not_negative n f (λ v b. h v (omega arith))))
  | inr ne ↦ omega (arith, ints, term_le_sum n f s (λ v b. h v (omega arith)) (omega arith), h n (omega arith))
]

-- an amount at one node
pub when-same : (v x : ℕ) → when (v == v) x ≡ x
when-same v x = rw (eq-eqb v v refl) refl

pub when-other : (e v x : ℕ) → (e ≡ v → ⊥) → when (e == v) x ≡ 0
when-other e v x ne = rw (ne_eqb e v ne) refl

-- an amount at one node, over all nodes
pub sum_at_one : (n : ℕ) (e x : ℕ) (p : ℕ → ℤ) → e < n → sum_below n (λ v. pos (when (e == v) x) *ℤ p v) ≡ pos x *ℤ p e
sum_at_one zero e x p lt = absurd (omega arith)
sum_at_one (suc n) e x p lt = elim (cases_eq e n) [
  | inl same ↦
      let before : sum_below n (λ v. pos (when (e == v) x) *ℤ p v) ≡ pos 0 =
      sum_below-zero n (λ v. pos (when (e == v) x) *ℤ p v) (λ v b. rw (when-other e v x (λ q. absurd (omega arith)), zero-*ℤ (p v)) refl) in
      let here : pos (when (e == n) x) *ℤ p n ≡ pos x *ℤ p e = rw same (rw (when-same n x) refl) in
      omega (arith, ints, before, here)
  | inr ne ↦
      let here : pos (when (e == n) x) *ℤ p n ≡ pos 0 = rw (when-other e n x ne, zero-*ℤ (p n)) refl in
      omega (arith, ints, sum_at_one n e x p (omega arith), here)
]

-- The amounts of arcs, each times the number at the arc's end, are the amounts at the nodes, each times the node's number.
pub sum_at_ends : (m : ℕ) (x e : ℕ → ℕ) (n : ℕ) (p : ℕ → ℤ) → ((a : ℕ) → a < m → e a < n) → sum_below m (λ a. pos (x a) *ℤ p (e a)) ≡ sum_below n (λ v. pos (count_below m (λ a. when (e a == v) (x a))) *ℤ p v)
sum_at_ends zero x e n p h = sym (sum_below-zero n (λ v. pos 0 *ℤ p v) (λ v b. zero-*ℤ (p v)))
sum_at_ends (suc m) x e n p h =
    let at : ℕ → ℕ = λ v. count_below m (λ a. when (e a == v) (x a)) in
    let last : ℕ → ℕ = λ v. when (e m == v) (x m) in
    let split : sum_below n (λ v. pos (at v + last v) *ℤ p v) ≡ sum_below n (λ v. (pos (at v) *ℤ p v) +ℤ (pos (last v) *ℤ p v)) =
    sum_below-equal n (λ v. pos (at v + last v) *ℤ p v) (λ v. (pos (at v) *ℤ p v) +ℤ (pos (last v) *ℤ p v)) (λ v b. scale_by_sum (at v) (last v) (p v)) in
    let parts = sum_below-+ℤ n (λ v. pos (at v) *ℤ p v) (λ v. pos (last v) *ℤ p v) in
    let one = sum_at_one n (e m) (x m) p (h m (omega arith)) in
    omega (arith, ints, split, parts, one, sum_at_ends m x e n p (λ a b. h a (omega arith)))
