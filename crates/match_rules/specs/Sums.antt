-- Sums over the places below a count.
use Rattle.std.specs.Prelude.{ℕ, zero, suc, ◌+◌, ℤ, pos, ◌+ℤ◌, Bool, if◌then◌else◌}

-- f 0 + .. + f (n - 1), in whole numbers with a sign
abbrev pub sum_below : ℕ → (ℕ → ℤ) → ℤ
sum_below zero f = pos 0
sum_below (suc n) f = sum_below n f +ℤ f n

-- f 0 + .. + f (n - 1)
abbrev pub count_below : ℕ → (ℕ → ℕ) → ℕ
count_below zero f = 0
count_below (suc n) f = count_below n f + f n

-- the amount where the test holds, and nothing elsewhere
abbrev pub when : Bool → ℕ → ℕ
when holds amount = if holds then amount else 0

-- the same with a sign
abbrev pub int_when : Bool → ℤ → ℤ
int_when holds amount = if holds then amount else pos 0
