-- Numbers as texts with one spelling each.
use Rattle.std.specs.Prelude.{ℕ, ℤ, pos, neg_ℤ, Bool, false, ◌==◌, List, [], ◌∷◌, length, if◌then◌else◌}
use Rattle.std.specs.Char.{is_ascii_digit}
use Rattle.std.specs.List.{list_all}
use Rattle.std.specs.Str.Parse.{digits_value}

-- `0`, or a digit from 1 to 9 and further digits
abbrev pub is_canonical : List ℕ → Bool
is_canonical [] = false
is_canonical (d ∷ ds) = if d == 48 then length ds == 0 else list_all is_ascii_digit (d ∷ ds)

-- the number that digits spell
abbrev pub value : List ℕ → ℕ
value ds = digits_value 10 ds

-- `-` and a canonical number that isn't `0`, or a canonical number
abbrev pub is_negative_canonical : List ℕ → Bool
is_negative_canonical [] = false
is_negative_canonical (d ∷ ds) = if d == 48 then false else list_all is_ascii_digit (d ∷ ds)

abbrev pub is_canonical_signed : List ℕ → Bool
is_canonical_signed [] = false
is_canonical_signed (b ∷ bs) = if b == 45 then is_negative_canonical bs else is_canonical (b ∷ bs)

-- the signed number that a canonical text spells
abbrev pub signed_value : List ℕ → ℤ
signed_value [] = pos 0
signed_value (b ∷ bs) = if b == 45 then neg_ℤ (pos (value bs)) else pos (value (b ∷ bs))

-- its magnitude
abbrev pub size : List ℕ → ℕ
size [] = 0
size (b ∷ bs) = if b == 45 then value bs else value (b ∷ bs)
