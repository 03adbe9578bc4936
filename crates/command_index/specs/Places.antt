-- Where accepted commands stand in a history.
use Rattle.std.specs.Prelude.{◌≡◌, ◌==◌, ◌&&◌, ℕ, List, [], ◌∷◌, length, Option, Some, None, bytes_eq, if◌then◌else◌}
use Rattle.desk_history.specs.declared.entries.Entry.TheVariants.{Accepted}
use Rattle.desk_history.specs.Histories.{History, commands}
use Rattle.command_index.specs.declared.index.CommandPlace.{CommandPlace}

-- the place of the accepted command of this caller and number
abbrev pub place_in : History → List ℕ → ℕ → Option CommandPlace
place_in [] caller number = None
place_in (Accepted by its command reply read ∷ H) caller number =
    if bytes_eq by caller && its == number then Some (record { entry = length H; command = commands H }) else place_in H caller number
place_in (entry ∷ H) caller number = place_in H caller number

-- the index has the places of the history's commands, and no others
abbrev pub IsIndexOf : History → (List ℕ → ℕ → Option CommandPlace) → Type 0
IsIndexOf H index = (caller : List ℕ) (number : ℕ) → index caller number ≡ place_in H caller number

-- the number of accepted commands
abbrev pub command_count : History → ℕ
command_count H = commands H
