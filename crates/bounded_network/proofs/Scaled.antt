-- A signed number times a natural.
use Rattle.std.proofs.Common.{◌≡◌, ℕ, zero, suc, ◌+◌, ◌-◌, ◌≤◌, refl, arith}
use Rattle.std.specs.Prelude.{ℤ, pos, ◌+ℤ◌, ◌-ℤ◌, ◌*ℤ◌, ◌≤ℤ◌}
use Rattle.std.proofs.lemmas.Int.{ints}
use Rattle.std.proofs.Math.IntN.{suc_ℤ-*ℤ, zero-*ℤ}

-- one more time
pub scale-suc : (n : ℕ) (z : ℤ) → pos (suc n) *ℤ z ≡ (pos n *ℤ z) +ℤ z
scale-suc n z = suc_ℤ-*ℤ (pos n) z

-- a sum scaled
pub scale-+ℤ : (n : ℕ) (z w : ℤ) → pos n *ℤ (z +ℤ w) ≡ (pos n *ℤ z) +ℤ (pos n *ℤ w)
scale-+ℤ zero z w = rw (zero-*ℤ (z +ℤ w), zero-*ℤ z, zero-*ℤ w) refl
scale-+ℤ (suc n) z w = omega (arith, ints, scale-suc n (z +ℤ w), scale-suc n z, scale-suc n w, scale-+ℤ n z w)

-- a difference scaled
pub scale--ℤ : (n : ℕ) (z w : ℤ) → pos n *ℤ (z -ℤ w) ≡ (pos n *ℤ z) -ℤ (pos n *ℤ w)
scale--ℤ zero z w = rw (zero-*ℤ (z -ℤ w), zero-*ℤ z, zero-*ℤ w) refl
scale--ℤ (suc n) z w = omega (arith, ints, scale-suc n (z -ℤ w), scale-suc n z, scale-suc n w, scale--ℤ n z w)

-- scaled by a sum
pub scale_by_sum : (m n : ℕ) (z : ℤ) → pos (m + n) *ℤ z ≡ (pos m *ℤ z) +ℤ (pos n *ℤ z)
scale_by_sum zero n z =
    let e : zero + n ≡ n = omega arith in
    rw (e, zero-*ℤ z) (omega (arith, ints))
scale_by_sum (suc m) n z =
    let e : suc m + n ≡ suc (m + n) = omega arith in
    rw e (omega (arith, ints, scale-suc (m + n) z, scale-suc m z, scale_by_sum m n z))

-- what is not negative is not negative scaled
pub scale_not_negative : (n : ℕ) (z : ℤ) → pos 0 ≤ℤ z → pos 0 ≤ℤ (pos n *ℤ z)
scale_not_negative zero z h = omega (arith, ints, zero-*ℤ z)
scale_not_negative (suc n) z h = omega (arith, ints, scale-suc n z, scale_not_negative n z h)

-- what is not positive is not positive scaled
pub scale_not_positive : (n : ℕ) (z : ℤ) → z ≤ℤ pos 0 → (pos n *ℤ z) ≤ℤ pos 0
scale_not_positive zero z h = omega (arith, ints, zero-*ℤ z)
scale_not_positive (suc n) z h = omega (arith, ints, scale-suc n z, scale_not_positive n z h)

-- more of what is not negative is not less
pub scale_more : (m n : ℕ) (z : ℤ) → m ≤ n → pos 0 ≤ℤ z → (pos m *ℤ z) ≤ℤ (pos n *ℤ z)
scale_more m n z le h =
    let k : ℕ = n - m in
    let e : m + k ≡ n = omega arith in
    rw (← e) (omega (arith, ints, scale_by_sum m k z, scale_not_negative k z h))

-- more of what is not positive is not more
pub scale_less : (m n : ℕ) (z : ℤ) → m ≤ n → z ≤ℤ pos 0 → (pos n *ℤ z) ≤ℤ (pos m *ℤ z)
scale_less m n z le h =
    let k : ℕ = n - m in
    let e : m + k ≡ n = omega arith in
    rw (← e) (omega (arith, ints, scale_by_sum m k z, scale_not_positive k z h))
