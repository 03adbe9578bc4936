-- Fractions of whole numbers, rounded.
use Rattle.std.specs.Prelude.{ℕ, ◌+◌, ◌*◌, ◌/◌, Option, Some, None, nat_le, if◌then◌else◌}

-- top / bottom rounded to a whole number, where a half goes up
abbrev pub rounded : ℕ → ℕ → ℕ
rounded top bottom = (2 * top + bottom) / (2 * bottom)

-- top / bottom rounded, where the exact fraction is at most 100,000
abbrev pub magnitude_of : ℕ → ℕ → Option ℕ
magnitude_of top bottom = if nat_le top (100000 * bottom) then Some (rounded top bottom) else None
