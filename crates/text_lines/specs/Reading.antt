-- Reading lines: where a reader stands, the line that is due there, and the first fault that is met.
use Rattle.std.specs.Prelude.{◌≡◌, ℕ, zero, suc, ◌+◌, ◌-◌, ◌^◌, ◌<◌, ◌≤◌, min, Bool, ◌==◌, nat_lt, List, [], ◌∷◌, ◌++◌, length, Option, IsSome, Result, Ok, Err, IsErrOf, if◌then◌else◌}
use Rattle.std.specs.List.{position_or_len, before_first, after_first}
use Rattle.std.specs.Str.{is_utf8}
use Rattle.edge_io.specs.Counts.{Rose}
use Rattle.edge_io.specs.Told.{told}
use Rattle.text_lines.specs.declared.lines.TheConstants.{LONGEST_LINE}
use Rattle.text_lines.specs.declared.fault.LineCode.{LineCode}
use Rattle.text_lines.specs.declared.fault.LineCode.TheVariants.{TooLong, NotUtf8}
use Rattle.text_lines.specs.declared.fault.TextFault.{TextFault}
use Rattle.text_lines.specs.declared.fault.TextFault.TheVariants.{Truncated, Trailing, BadLine}
use Rattle.text_lines.specs.declared.fault.LineError.{LineError}
use Rattle.text_lines.specs.declared.fault.LineError.TheVariants as line_errors
use Rattle.text_lines.specs.declared.fault.ReadError.{ReadError}
use Rattle.text_lines.specs.declared.fault.ReadError.TheVariants as read_errors

infixl 10 ◌>>=◌
abbrev pub ◌>>=◌ : {A B E : Type 0} → Result A E → (A → Result B E) → Result B E
(Ok x) >>= f = f x
(Err e) >>= f = Err e

-- where a reader stands: the number of the line that is due, and the bytes from there on
pub record Cursor : Type 0 where
  pub number : ℕ
  pub bytes : List ℕ

-- the number of the next line, which stands still at the end of its type
abbrev pub following : ℕ → ℕ
following number = min (number + 1) (2 ^ 64 - 1)

abbrev pub is_feed : ℕ → Bool
is_feed byte = byte == 10

-- the line that is due, without its line feed, and the place behind it
unfoldable pub line_at : Cursor → Result (List ℕ × Cursor) TextFault
line_at at =
    if nat_lt LONGEST_LINE (position_or_len is_feed at.bytes) then Err (BadLine at.number TooLong)
    else (if position_or_len is_feed at.bytes == length at.bytes then Err Truncated
    else Ok (before_first is_feed at.bytes, record { number = following at.number; bytes = after_first is_feed at.bytes }))

-- a fault of a line, with the line's number
abbrev pub at_line : {A : Type 0} → ℕ → Result A LineCode → Result A TextFault
at_line number (Ok x) = Ok x
at_line number (Err code) = Err (BadLine number code)

-- a line has to be UTF-8 before anything else of it is read
abbrev pub as_text : {A : Type 0} → (List ℕ → Result A LineCode) → List ℕ → Result A LineCode
as_text read line = if is_utf8 line then read line else Err NotUtf8

-- what the line that is due reads as, and the place behind it
unfoldable pub due : {A : Type 0} → (List ℕ → Result A LineCode) → Cursor → Result (A × Cursor) TextFault
due read at = do
  line ← line_at at
  x ← at_line at.number (as_text read line.0)
  Ok (x, line.1)

-- so many lines, each read with the items before it known
unfoldable pub items_at : {A : Type 0} → (List A → List ℕ → Result A LineCode) → ℕ → List A → Cursor → Result (List A × Cursor) TextFault
items_at read zero before at = Ok (before, at)
items_at read (suc n) before at = do
  x ← due (read before) at
  items_at read n (before ++ x.0 ∷ []) x.1

-- nothing is left
unfoldable pub end_at : Cursor → Result (Unit {0}) TextFault
end_at at = if length at.bytes == 0 then Ok tt else Err Trailing

-- what a function answered is what reading the line gives, unless memory ran out
abbrev pub GivesLine : {X : Type 0} → Result X LineError → Result X LineCode → Type 0
GivesLine (Ok x) read = read ≡ Ok x
GivesLine (Err line_errors.Memory) read = Unit {0}
GivesLine (Err (line_errors.Code code)) read = read ≡ Err code

-- an error is what reading gives, unless memory ran out or the source failed
abbrev pub Fails : {Y : Type 0} → ReadError → Result Y TextFault → Type 0
Fails read_errors.Memory read = Unit {0}
Fails read_errors.ReadFault read = Unit {0}
Fails (read_errors.Text fault) read = read ≡ Err fault

-- what a function answered, seen by view, and where it stands then, is what reading gives
abbrev pub Gives : {X Y : Type 0} → (X → Y) → Result X ReadError → Cursor → Result (Y × Cursor) TextFault → Type 0
Gives view (Ok x) now read = read ≡ Ok (view x, now)
Gives view (Err e) now read = Fails e read

-- the count of faults never falls, a read fault comes only where it rose, and a text is cut off only where the source
-- has nothing left
pub record FaultHasCause {X : Type 0} (before now : ℕ) (left : Option (List ℕ)) (result : Result X ReadError) : Type 0 where
  pub later : before ≤ now
  pub failed : IsErrOf result read_errors.ReadFault → Rose before now
  pub ended : IsSome left → IsErrOf result (read_errors.Text Truncated) → told left ≡ []

-- what clauses see of the reader of lines: bytes that it has taken from the source and not yet read as lines, the
-- line that it read last, and the number of the line that is due
pub record LinesValue : Type 0 where
  pub unread : List ℕ
  pub line : List ℕ
  pub number : ℕ

-- where it stands over what the source has left
abbrev pub cursor : LinesValue → Option (List ℕ) → Cursor
cursor lines left = record { number = lines.number; bytes = lines.unread ++ told left }

-- each item was read from some line, with the items before it known
abbrev pub AllFrom : {A : Type 0} → (List A → List ℕ → Result A LineCode) → List A → List A → Type 0
AllFrom read before [] = Unit {0}
AllFrom read before (x ∷ xs) = ((line : List ℕ) × (read before line ≡ Ok x)) × AllFrom read (before ++ x ∷ []) xs

-- why no piece could be added to the line
abbrev pub IsPieceError : LinesValue → ReadError → Type 0
IsPieceError lines read_errors.Memory = Unit {0}
IsPieceError lines read_errors.ReadFault = ⊥
IsPieceError lines (read_errors.Text fault) = (fault ≡ BadLine lines.number TooLong) × (LONGEST_LINE < length lines.line + position_or_len is_feed lines.unread)
