-- A map of maps: for each caller the places of its commands by their numbers.
use Rattle.std.specs.Prelude.{ℕ, List, Option, Some, None}
use Rattle.std.specs.BTreeMap.{BTreeMap, get, get_by_text}
use Rattle.std.specs.Ordering.{nat_cmp}
use Rattle.command_index.specs.declared.index.CommandIndex.{CommandIndex}
use Rattle.command_index.specs.declared.index.CommandPlace.{CommandPlace}

abbrev pub number_at : Option (BTreeMap ℕ CommandPlace) → ℕ → Option CommandPlace
number_at None number = None
number_at (Some numbers) number = get nat_cmp numbers number

-- the place of the command of a caller and number
abbrev pub place_at : CommandIndex → List ℕ → ℕ → Option CommandPlace
place_at index caller number = number_at (get_by_text index.callers caller) number
