-- Products of a natural number and a whole number.
use Rattle.std.proofs.Common.{◌≡◌, ℕ, zero, suc, negsuc, ◌+◌, ◌-◌, ◌*◌, ◌≤◌, sym, ◌∙◌, ap, arith, ◌⊎◌, inl, inr}
use Rattle.std.proofs.lemmas.Int.{ints, clamps}
use Rattle.std.proofs.Math.IntN.{zero-*ℤ, suc_ℤ-*ℤ, *ℤ_comm}
use Rattle.std.specs.Prelude.{ℤ, pos, ◌+ℤ◌, ◌*ℤ◌, neg_ℤ, ◌≤ℤ◌}
use Rattle.std.specs.Int.{int_max}
use Rattle.match_rules.specs.Evidence.{most_at}

pub suc_times : (n : ℕ) (z : ℤ) → pos (suc n) *ℤ z ≡ (pos n *ℤ z) +ℤ z
suc_times n z = suc_ℤ-*ℤ (pos n) z

pub times_zero : (n : ℕ) → pos n *ℤ pos 0 ≡ pos 0
times_zero n = *ℤ_comm (pos n) (pos 0) ∙ zero-*ℤ (pos n)

-- a product by a sum
pub times_sum : (n : ℕ) (y z : ℤ) → pos n *ℤ (y +ℤ z) ≡ (pos n *ℤ y) +ℤ (pos n *ℤ z)
times_sum zero y z = omega (arith, ints, zero-*ℤ (y +ℤ z), zero-*ℤ y, zero-*ℤ z)
times_sum (suc n) y z = omega (arith, ints, suc_times n (y +ℤ z), suc_times n y, suc_times n z, times_sum n y z)

-- a sum by a number
pub sum_times : (m n : ℕ) (z : ℤ) → pos (m + n) *ℤ z ≡ (pos m *ℤ z) +ℤ (pos n *ℤ z)
sum_times m zero z = let e : m + zero ≡ m = omega arith in rw e (omega (arith, ints, zero-*ℤ z))
sum_times m (suc n) z =
    let e : m + suc n ≡ suc (m + n) = omega arith in
    rw e (omega (arith, ints, suc_times (m + n) z, suc_times n z, sum_times m n z))

-- a product of three
pub times_times : (m n : ℕ) (z : ℤ) → pos m *ℤ (pos n *ℤ z) ≡ pos (m * n) *ℤ z
times_times zero n z = let e : zero * n ≡ 0 = omega arith in rw e (zero-*ℤ (pos n *ℤ z) ∙ sym (zero-*ℤ z))
times_times (suc m) n z =
    let e : suc m * n ≡ m * n + n = omega arith in
    rw e (omega (arith, ints, suc_times m (pos n *ℤ z), sum_times (m * n) n z, times_times m n z))

-- two naturals in front change places
pub times_swap : (m n : ℕ) (z : ℤ) → pos m *ℤ (pos n *ℤ z) ≡ pos n *ℤ (pos m *ℤ z)
times_swap m n z =
    let e : m * n ≡ n * m = omega arith in
    times_times m n z ∙ ap (λ k. pos k *ℤ z) e ∙ sym (times_times n m z)

pub times_neg : (n : ℕ) (z : ℤ) → pos n *ℤ neg_ℤ z ≡ neg_ℤ (pos n *ℤ z)
times_neg zero z = omega (arith, ints, zero-*ℤ (neg_ℤ z), zero-*ℤ z)
times_neg (suc n) z = omega (arith, ints, suc_times n (neg_ℤ z), suc_times n z, times_neg n z)

-- greater factors make greater products
pub times_more : (n : ℕ) (y z : ℤ) → y ≤ℤ z → (pos n *ℤ y) ≤ℤ (pos n *ℤ z)
times_more zero y z h = omega (arith, ints, zero-*ℤ y, zero-*ℤ z)
times_more (suc n) y z h = omega (arith, ints, suc_times n y, suc_times n z, times_more n y z h)

pub more_times : (k m : ℕ) (z : ℤ) → pos 0 ≤ℤ z → (pos m *ℤ z) ≤ℤ (pos (m + k) *ℤ z)
more_times zero m z h = let e : m + zero ≡ m = omega arith in rw e (omega (arith, ints))
more_times (suc k) m z h =
    let e : m + suc k ≡ suc (m + k) = omega arith in
    rw e (omega (arith, ints, suc_times (m + k) z, more_times k m z h))

pub more_times_below : (k m : ℕ) (z : ℤ) → z ≤ℤ pos 0 → (pos (m + k) *ℤ z) ≤ℤ (pos m *ℤ z)
more_times_below zero m z h = let e : m + zero ≡ m = omega arith in rw e (omega (arith, ints))
more_times_below (suc k) m z h =
    let e : m + suc k ≡ suc (m + k) = omega arith in
    rw e (omega (arith, ints, suc_times (m + k) z, more_times_below k m z h))

pub sign : (z : ℤ) → (pos 0 ≤ℤ z) ⊎ (z ≤ℤ pos 0)
sign (pos n) = inl (omega (arith, ints))
sign (negsuc n) = inr (omega (arith, ints))

-- an amount between two bounds makes at most what the better bound makes
pub between : (least amount greatest : ℕ) (z : ℤ) → least ≤ amount → amount ≤ greatest → (pos amount *ℤ z) ≤ℤ most_at least greatest z
between least amount greatest z low high =
    let up : least + (amount - least) ≡ amount = omega arith in
    let top : amount + (greatest - amount) ≡ greatest = omega arith in
    elim (sign z) [
      | inl h ↦ let m : (pos amount *ℤ z) ≤ℤ (pos greatest *ℤ z) = rw top at (more_times (greatest - amount) amount z h) in omega (arith, ints, clamps)
      | inr h ↦ let m : (pos amount *ℤ z) ≤ℤ (pos least *ℤ z) = rw up at (more_times_below (amount - least) least z h) in omega (arith, ints, clamps)
    ]

-- an amount of at most a limit makes at most what the limit makes, where the price isn't below 0
pub up_to : (amount limit : ℕ) (z : ℤ) → amount ≤ limit → (pos amount *ℤ z) ≤ℤ (pos limit *ℤ int_max (pos 0) z)
up_to amount limit z h =
    let top : amount + (limit - amount) ≡ limit = omega arith in
    let price : z ≤ℤ int_max (pos 0) z = omega (arith, ints, clamps) in
    let sign : pos 0 ≤ℤ int_max (pos 0) z = omega (arith, ints, clamps) in
    let first : (pos amount *ℤ z) ≤ℤ (pos amount *ℤ int_max (pos 0) z) = times_more amount z (int_max (pos 0) z) price in
    let second : (pos amount *ℤ int_max (pos 0) z) ≤ℤ (pos limit *ℤ int_max (pos 0) z) = rw top at (more_times (limit - amount) amount (int_max (pos 0) z) sign) in
    omega (arith, ints)

-- what both bounds make together with a factor
pub most_at-times : (least greatest factor : ℕ) (z : ℤ) → most_at (least * factor) (greatest * factor) z ≤ℤ (pos factor *ℤ most_at least greatest z)
most_at-times least greatest factor z =
    let low : pos (least * factor) *ℤ z ≡ pos factor *ℤ (pos least *ℤ z) =
    let e : factor * least ≡ least * factor = omega arith in ap (λ k. pos k *ℤ z) (sym e) ∙ sym (times_times factor least z) in
    let high : pos (greatest * factor) *ℤ z ≡ pos factor *ℤ (pos greatest *ℤ z) =
    let e : factor * greatest ≡ greatest * factor = omega arith in ap (λ k. pos k *ℤ z) (sym e) ∙ sym (times_times factor greatest z) in
    let first : (pos least *ℤ z) ≤ℤ most_at least greatest z = omega (arith, ints, clamps) in
    let second : (pos greatest *ℤ z) ≤ℤ most_at least greatest z = omega (arith, ints, clamps) in
    let one = times_more factor (pos least *ℤ z) (most_at least greatest z) first in
    let two = times_more factor (pos greatest *ℤ z) (most_at least greatest z) second in
    omega (arith, ints, clamps)

-- a product is within the product of its factors' limits
pub times_within : (n limit most : ℕ) (z : ℤ) → n ≤ limit → neg_ℤ (pos most) ≤ℤ z → z ≤ℤ pos most
    → ((neg_ℤ (pos (limit * most)) ≤ℤ (pos n *ℤ z)) × ((pos n *ℤ z) ≤ℤ pos (limit * most)))
times_within n limit most z few low high =
    let none : 0 ≤ n = omega arith in
    let up : (pos n *ℤ z) ≤ℤ most_at 0 limit z = between 0 n limit z none few in
    let down : (pos n *ℤ neg_ℤ z) ≤ℤ most_at 0 limit (neg_ℤ z) = between 0 n limit (neg_ℤ z) none few in
    let above : neg_ℤ z ≤ℤ pos most = omega (arith, ints) in
    let top : (pos limit *ℤ z) ≤ℤ pos (limit * most) = times_more limit z (pos most) high in
    let bottom : (pos limit *ℤ neg_ℤ z) ≤ℤ pos (limit * most) = times_more limit (neg_ℤ z) (pos most) above in
    (omega (arith, ints, clamps, times_neg n z, zero-*ℤ z, zero-*ℤ (neg_ℤ z)), omega (arith, ints, clamps, zero-*ℤ z))
