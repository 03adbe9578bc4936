-- Words that are no options.
use Rattle.std.specs.Prelude.{ℕ, Bool, true, not, ◌==◌, List, [], ◌∷◌}
use Rattle.std.specs.List.{list_all}

-- the word begins with no hyphen, whose byte is 45
abbrev pub is_plain : List ℕ → Bool
is_plain [] = true
is_plain (byte ∷ bytes) = not (byte == 45)

abbrev pub are_plain : List (List ℕ) → Bool
are_plain words = list_all is_plain words
