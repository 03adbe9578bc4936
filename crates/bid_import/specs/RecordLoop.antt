-- Reading record by record: what is left to be read after some of them, and what a record more does.
use Rattle.std.specs.Prelude.{◌≡◌, ℕ, ◌+◌, ◌-◌, ◌==◌, nat_le, if◌then◌else◌, List, [], ◌∷◌, ◌++◌, ◌<◌, ◌≤◌, ◌⊎◌, length, Result, Ok, Err, ⊤}
use Rattle.csv.specs.declared.error.ErrorKind.{ErrorKind}
use Rattle.csv.specs.declared.error.ErrorKind.TheVariants as kind
use Rattle.score_spec.specs.declared.pairs.TheConstants.{MOST_PAIR_ROWS}
use Rattle.bid_import.specs.Files.{rows_from, rows_of_records}
use Rattle.bid_import.specs.declared.fault.Code.{Code}
use Rattle.bid_import.specs.declared.fault.Code.TheVariants.{TooMany, NotUtf8}
use Rattle.bid_import.specs.declared.fault.ImportFault.{ImportFault}
use Rattle.bid_import.specs.declared.fault.ImportFault.TheVariants.{Memory, Bad}

-- what was read in front of what the rest gives
abbrev pub with_rows : {A : Type 0} → List A → Result (List A) (ℕ × Code) → Result (List A) (ℕ × Code)
with_rows front (Ok rows) = Ok (front ++ rows)
with_rows front (Err fault) = Err fault

-- what a file reads as, after so many of its records gave these rows, and these records are left
abbrev pub rest_of : {A : Type 0} → (List (List ℕ) → Result A Code) → List (List ℕ) → ℕ → ℕ → List A → List (List (List ℕ)) → Result (List A) (ℕ × Code)
rest_of row_of columns most number rows left =
    with_rows rows (if number == 0 then rows_of_records row_of columns most left else rows_from row_of (number + 1) (most - length rows) left)

-- a record more, whatever follows it
abbrev pub Goes : {A : Type 0} → Result (Unit {0}) ImportFault → (List (List (List ℕ)) → Result (List A) (ℕ × Code)) → (List (List (List ℕ)) → Result (List A) (ℕ × Code)) → List (List ℕ) → Type 0
Goes (Ok u) before after fields = (rest : List (List (List ℕ))) → before (fields ∷ rest) ≡ after rest
Goes (Err Memory) before after fields = ⊤
Goes (Err (Bad row code)) before after fields = (rest : List (List (List ℕ))) → before (fields ∷ rest) ≡ Err (row, code)

-- a row more, or the fault of the record of this number
abbrev pub Adds : {A : Type 0} → Result (Unit {0}) ImportFault → (List (List ℕ) → Result A Code) → ℕ → ℕ → List A → List A → List (List ℕ) → Type 0
Adds {A} (Ok u) row_of most number old new fields = (length old < most) × (row : A) × (row_of fields ≡ Ok row) × (new ≡ old ++ row ∷ [])
Adds (Err Memory) row_of most number old new fields = ⊤
Adds (Err (Bad row code)) row_of most number old new fields =
    (row ≡ number) × (((code ≡ TooMany) × (most ≤ length old)) ⊎ ((length old < most) × (row_of fields ≡ Err code)))

-- why the next record isn't one of text, after so many that gave these rows
abbrev pub unread_fault : {A : Type 0} → ErrorKind → ℕ → ℕ → List A → ImportFault
unread_fault (kind.Utf8 pos err) most number rows = Bad (number + 1) (if nat_le most (length rows) then TooMany else NotUtf8)
unread_fault (kind.Io e) most number rows = Memory
unread_fault (kind.UnequalLengths pos expected len) most number rows = Memory
unread_fault kind.OutOfMemory most number rows = Memory
unread_fault (kind.Serialize text) most number rows = Memory
unread_fault (kind.Deserialize pos err) most number rows = Memory

-- after so many records, of which the first may have been skipped, each other one gave a row
pub record IsProgress {A : Type 0} (most number : ℕ) (rows : List A) : Type 0 where
  pub counted : number ≤ length rows + 1
  pub few : length rows ≤ most
  pub fresh : number ≡ 0 → rows ≡ []
  pub bounded : most ≤ MOST_PAIR_ROWS
