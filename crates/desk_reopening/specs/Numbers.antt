-- The numbers that callers gave to accepted commands.
use Rattle.std.specs.Prelude.{◌≡◌, ℕ, ◌==◌, ◌&&◌, Bool, List, bytes_eq, is_some}
use Rattle.std.specs.HashSet.{contains_by}
use Rattle.std.specs.String.{string_bytes}
use Rattle.desk_history.specs.Histories.{History, kept}
use Rattle.desk_reopening.specs.declared.numbers.Numbers.{Numbers}

-- the number of a caller is among them
abbrev pub is_used : Numbers → List ℕ → ℕ → Bool
is_used numbers caller number = contains_by (λ key. bytes_eq (string_bytes key.0) caller && key.1 == number) numbers.used

-- they are those of the accepted commands
abbrev pub AreNumbersOf : History → Numbers → Type 0
AreNumbersOf H numbers = (caller : List ℕ) (number : ℕ) → is_used numbers caller number ≡ is_some (kept H caller number)
