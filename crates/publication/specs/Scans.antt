-- A line of canonical numbers, read byte by byte.
use Rattle.std.specs.Prelude.{ℕ, ◌+◌, ◌*◌, ◌-◌, min, true, false, ◌&&◌, ◌||◌, ◌==◌, not, List, [], ◌∷◌, ◌++◌, map, Option, None, Some, if◌then◌else◌}
use Rattle.std.specs.Char.{is_ascii_digit}
use Rattle.std.specs.List.{list_all}
use Rattle.std.specs.Option.{option_and_then}
use Rattle.publication.specs.declared.numbers.Digits.{Digits}
use Rattle.text_lines.specs.Numbers.{is_canonical, value}

-- a number that is held in 32 bits: a greater one is the greatest of these
abbrev pub held : ℕ → ℕ
held n = min n 4294967295

-- the numbers of fields, where each is canonical
abbrev pub numbers_of : List (List ℕ) → Option (List ℕ)
numbers_of parts = if list_all is_canonical parts then Some (map (λ part. held (value part)) parts) else None

abbrev pub fresh : Digits
fresh = record { number = 0; empty = true }

-- a field with one more byte, where that may follow
unfoldable pub with_digit : Digits → ℕ → Option Digits
with_digit field byte =
    if is_ascii_digit byte && (field.empty || not (field.number == 0))
    then Some (record { number = held (field.number * 10 + (byte - 48)); empty = false })
    else None

-- what the bytes that are left make of the numbers so far and the field so far
abbrev pub scan : List ℕ → Digits → List ℕ → Option (List ℕ)
scan numbers field [] = if field.empty then None else Some (numbers ++ field.number ∷ [])
scan numbers field (byte ∷ bytes) =
    if byte == 32 then (if field.empty then None else scan (numbers ++ field.number ∷ []) fresh bytes)
    else option_and_then (λ next. scan numbers next bytes) (with_digit field byte)
