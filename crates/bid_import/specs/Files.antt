-- What a file reads as: its rows in their order, or the first record at fault.
use Rattle.std.specs.Prelude.{◌≡◌, ℕ, zero, suc, ◌+◌, Bool, if◌then◌else◌, List, [], ◌∷◌, Option, Some, None, Result, Ok, Err, Vec, ⊤}
use Rattle.std.specs.List.{list_all}
use Rattle.std.specs.Str.{is_utf8, bytes_eq}
use Rattle.std.specs.Cmp.Lexicographic.{pointwise}
use Rattle.std.specs.declared.alloc.Global.{Global}
use Rattle.csv.specs.Reading.{records, default_config, strip_bom}
use Rattle.bid_import.specs.declared.fault.Code.{Code}
use Rattle.bid_import.specs.declared.fault.Code.TheVariants.{TooMany, NotUtf8}
use Rattle.bid_import.specs.declared.fault.RowFault.{RowFault}
use Rattle.bid_import.specs.declared.fault.RowFault.TheVariants as row
use Rattle.bid_import.specs.declared.fault.ImportFault.{ImportFault}
use Rattle.bid_import.specs.declared.fault.ImportFault.TheVariants.{Memory, Bad}

-- a record of text, read
abbrev pub checked : {A : Type 0} → (List (List ℕ) → Result A Code) → List (List ℕ) → Result A Code
checked row_of fields = if list_all is_utf8 fields then row_of fields else Err NotUtf8

-- a row, and then the others
abbrev pub with_row : {A : Type 0} → A → Result (List A) (ℕ × Code) → Result (List A) (ℕ × Code)
with_row row (Ok rows) = Ok (row ∷ rows)
with_row row (Err fault) = Err fault

-- the row of a record and then the others, or its fault
abbrev pub then_rows : {A : Type 0} → ℕ → Result A Code → Result (List A) (ℕ × Code) → Result (List A) (ℕ × Code)
then_rows number (Ok row) more = with_row row more
then_rows number (Err code) more = Err (number, code)

-- the rows of the records from this number on, of which there is room for so many
abbrev pub rows_from : {A : Type 0} → (List (List ℕ) → Result A Code) → ℕ → ℕ → List (List (List ℕ)) → Result (List A) (ℕ × Code)
rows_from row_of number room [] = Ok []
rows_from row_of number zero (fields ∷ rest) = Err (number, TooMany)
rows_from row_of number (suc room) (fields ∷ rest) = then_rows number (checked row_of fields) (rows_from row_of (number + 1) room rest)

-- the fields are exactly the names of the columns
abbrev pub is_header : List (List ℕ) → List (List ℕ) → Bool
is_header columns fields = pointwise bytes_eq columns fields

-- the rows of a file's records, without the first where it has the names of the columns
abbrev pub rows_of_records : {A : Type 0} → (List (List ℕ) → Result A Code) → List (List ℕ) → ℕ → List (List (List ℕ)) → Result (List A) (ℕ × Code)
rows_of_records row_of columns most [] = Ok []
rows_of_records row_of columns most (fields ∷ rest) = if is_header columns fields then rows_from row_of 2 most rest else rows_from row_of 1 most (fields ∷ rest)

-- what the bytes of a file read as, one byte order mark dropped
unfoldable pub rows_of_file : {A : Type 0} → (List (List ℕ) → Result A Code) → List (List ℕ) → ℕ → List ℕ → Result (List A) (ℕ × Code)
rows_of_file row_of columns most bytes = rows_of_records row_of columns most (records default_config (strip_bom bytes))

-- the answer has the rows of the file, or its first fault; or memory was wanting
abbrev pub Imports : {A : Type 0} → Result (Vec A Global) ImportFault → Result (List A) (ℕ × Code) → Type 0
Imports (Ok rows) said = said ≡ Ok rows.items
Imports (Err Memory) said = ⊤
Imports (Err (Bad row code)) said = said ≡ Err (row, code)

-- the code has the row of the record, or its code; or memory was wanting
abbrev pub Reads : {A : Type 0} → Result A RowFault → Result A Code → Type 0
Reads (Ok row) said = said ≡ Ok row
Reads (Err row.Memory) said = ⊤
Reads (Err (row.Wrong code)) said = said ≡ Err code

abbrev pub first_of : List (List (List ℕ)) → Option (List (List ℕ))
first_of [] = None
first_of (fields ∷ rest) = Some fields

abbrev pub first_number : List (List ℕ) → Option (List (List ℕ)) → ℕ
first_number columns None = 1
first_number columns (Some fields) = if is_header columns fields then 2 else 1

-- the number of the first record that is a row: 2 where the names of the columns stand first, and else 1
unfoldable pub first_row_of : List (List ℕ) → List ℕ → ℕ
first_row_of columns bytes = first_number columns (first_of (records default_config (strip_bom bytes)))
