-- The fields of a line, which one space separates.
use Rattle.std.specs.Prelude.{ℕ, Bool, ◌==◌, List, [], ◌∷◌, Option, None, Some}
use Rattle.std.specs.List.{slice_split, join_with_byte}
use Rattle.std.specs.Option.{option_map}

abbrev pub is_space : ℕ → Bool
is_space byte = byte == 32

-- the parts between the spaces: one more than there are spaces
unfoldable pub fields : List ℕ → List (List ℕ)
fields line = slice_split is_space line

-- the line of these fields
unfoldable pub with_spaces : List (List ℕ) → List ℕ
with_spaces parts = join_with_byte 32 parts

-- the fields, where they are just so many
abbrev pub one_of : List (List ℕ) → Option (List ℕ)
one_of [] = None
one_of (a ∷ []) = Some a
one_of (a ∷ b ∷ parts) = None

abbrev pub two_of : List (List ℕ) → Option (List ℕ × List ℕ)
two_of [] = None
two_of (a ∷ parts) = option_map (λ (b : List ℕ). (a, b)) (one_of parts)

abbrev pub three_of : List (List ℕ) → Option (List ℕ × List ℕ × List ℕ)
three_of [] = None
three_of (a ∷ parts) = option_map (λ (p : List ℕ × List ℕ). (a, p.0, p.1)) (two_of parts)

abbrev pub four_of : List (List ℕ) → Option (List ℕ × List ℕ × List ℕ × List ℕ)
four_of [] = None
four_of (a ∷ parts) = option_map (λ (p : List ℕ × List ℕ × List ℕ). (a, p.0, p.1, p.2)) (three_of parts)

abbrev pub five_of : List (List ℕ) → Option (List ℕ × List ℕ × List ℕ × List ℕ × List ℕ)
five_of [] = None
five_of (a ∷ parts) = option_map (λ (p : List ℕ × List ℕ × List ℕ × List ℕ). (a, p.0, p.1, p.2, p.3)) (four_of parts)

-- one field, or two
abbrev pub one_or_two_of : List (List ℕ) → Option (List ℕ × Option (List ℕ))
one_or_two_of [] = None
one_or_two_of (a ∷ []) = Some (a, None)
one_or_two_of (a ∷ b ∷ parts) = option_map (λ (last : List ℕ). (a, Some last)) (one_of (b ∷ parts))

abbrev pub two_or_three_of : List (List ℕ) → Option (List ℕ × List ℕ × Option (List ℕ))
two_or_three_of [] = None
two_or_three_of (a ∷ parts) = option_map (λ (p : List ℕ × Option (List ℕ)). (a, p.0, p.1)) (one_or_two_of parts)

abbrev pub three_or_four_of : List (List ℕ) → Option (List ℕ × List ℕ × List ℕ × Option (List ℕ))
three_or_four_of [] = None
three_or_four_of (a ∷ parts) = option_map (λ (p : List ℕ × List ℕ × Option (List ℕ)). (a, p.0, p.1, p.2)) (two_or_three_of parts)
