-- A weight times a value, and sums of such products, within their bounds.
use Rattle.std.proofs.Common.{◌≡◌, ℕ, ◌+◌, ◌*◌, ◌≤◌, ℤ, pos, negsuc, neg_ℤ, ◌+ℤ◌, ◌*ℤ◌, ◌≤ℤ◌, unsigned_abs, mul-le-mul, arith}
use Rattle.std.proofs.lemmas.Int.{ints, unsigned_abs-mul}

within : (n : ℕ) (z : ℤ) → neg_ℤ (pos n) ≤ℤ z → z ≤ℤ pos n → unsigned_abs z ≤ n
within n (pos m) low high = omega (arith, ints, high)
within n (negsuc m) low high = omega (arith, ints, low)

bounds : (n : ℕ) (z : ℤ) → unsigned_abs z ≤ n → (neg_ℤ (pos n) ≤ℤ z) × (z ≤ℤ pos n)
bounds n (pos m) small = (omega (arith, ints, small), omega (arith, ints, small))
bounds n (negsuc m) small = (omega (arith, ints, small), omega (arith, ints, small))

pub product_within : (m n : ℕ) (a b z : ℤ) → neg_ℤ (pos m) ≤ℤ a → a ≤ℤ pos m → neg_ℤ (pos n) ≤ℤ b → b ≤ℤ pos n → z ≡ a *ℤ b → (neg_ℤ (pos (m * n)) ≤ℤ z) × (z ≤ℤ pos (m * n))
product_within m n a b z a_low a_high b_low b_high is =
    bounds (m * n) z (rw (is, unsigned_abs-mul a b) (mul-le-mul (within m a a_low a_high) (within n b b_low b_high)))

-- one more part of a sum

pub sum_step : (done part left rest whole now : ℤ) → done +ℤ left ≡ whole → left ≡ part +ℤ rest → now ≡ done +ℤ part → now +ℤ rest ≡ whole
sum_step done part left rest whole now before next is = omega (arith, ints, before, next, is)

pub bounds_step : (n i : ℕ) (done part now : ℤ) → neg_ℤ (pos (n * i)) ≤ℤ done → done ≤ℤ pos (n * i) → neg_ℤ (pos n) ≤ℤ part → part ≤ℤ pos n → now ≡ done +ℤ part
    → (neg_ℤ (pos (n * (i + 1))) ≤ℤ now) × (now ≤ℤ pos (n * (i + 1)))
bounds_step n i done part now low high part_low part_high is =
    let more : n * (i + 1) ≡ n * i + n = search arith in
    rw more (omega (arith, ints, low, part_low, is), omega (arith, ints, high, part_high, is))

pub sum_end : (done left whole : ℤ) → done +ℤ left ≡ whole → left ≡ pos 0 → done ≡ whole
sum_end done left whole all none = omega (arith, ints, all, none)
