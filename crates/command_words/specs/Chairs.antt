-- The words behind `session`: the names of the chairs.
use Rattle.std.specs.Prelude.{◌≡◌, ◌≢◌, ◌≤◌, ℕ, Bool, true, ◌&&◌, not, nat_le, List, [], ◌∷◌, length, All}
use Rattle.std.specs.List.{AllPairs, list_all, list_any}
use Rattle.std.specs.Str.{bytes_eq}
use Rattle.desk_keeper.specs.Names.{is_chair_name}
use Rattle.command_words.specs.declared.chairs.TheConstants.{MOST_CHAIRS}

-- no name is equal to one behind it
abbrev pub are_distinct : List (List ℕ) → Bool
are_distinct [] = true
are_distinct (name ∷ names) = not (list_any (bytes_eq name) names) && are_distinct names

-- 1 to 16 names of chairs, no two of them equal
abbrev pub may_be_chairs : List (List ℕ) → Bool
may_be_chairs names = (nat_le 1 (length names) && nat_le (length names) MOST_CHAIRS) && (list_all is_chair_name names && are_distinct names)

-- the same, told of a list
pub record AreChairs (names : List (List ℕ)) : Type 0 where
  pub least : 1 ≤ length names
  pub most : length names ≤ MOST_CHAIRS
  pub named : All (λ name. is_chair_name name ≡ true) names
  pub apart : AllPairs (λ name other. name ≢ other) names
