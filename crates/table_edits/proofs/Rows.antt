-- The rows of a file: no more than its limit, and each keeps what a row of such a file keeps.
use Rattle.std.proofs.Common.{◌≡◌, ℕ, zero, suc, ◌+◌, ◌≤◌, List, [], ◌∷◌, length, Option, Some, None, inl, inr, refl, arith}
use Rattle.std.specs.Prelude.{Result, Ok, Err, All}
use Rattle.std.specs.List.{list_all}
use Rattle.std.specs.Str.{is_utf8}
use Rattle.std.proofs.lemmas.Bool.{cases_Bool}
use Rattle.std.proofs.lemmas.List.Elements.{All-nil, All-cons}
use Rattle.bid_import.specs.declared.fault.Code.{Code}
use Rattle.bid_import.specs.Files.{checked, then_rows, rows_from, is_header, rows_of_records, rows_of_file, first_of, first_number, first_row_of}

-- what is known of the rows so far
pub record AreRows {A : Type 0} (P : A → Type 0) (most : ℕ) (rows : List A) : Type 0 where
  pub few : length rows ≤ most
  pub kept : All P rows

checked_keeps : {A : Type 0} (P : A → Type 0) (row_of : List (List ℕ) → Result A Code) → ((fields : List (List ℕ)) (row : A) → row_of fields ≡ Ok row → P row) → (fields : List (List ℕ)) (row : A) → checked row_of fields ≡ Ok row → P row
checked_keeps {A} P row_of keeps fields row h =
    elim (cases_Bool (list_all is_utf8 fields)) [
      | inl e ↦ keeps fields row (rw e at h)
      | inr e ↦ let wrong = rw e at h in absurd (cc)
    ]

then_rows_are : {A : Type 0} (P : A → Type 0) (room number : ℕ) (one : Result A Code) (more : Result (List A) (ℕ × Code)) (rows : List A) → ((row : A) → one ≡ Ok row → P row) → ((rest : List A) → more ≡ Ok rest → AreRows P room rest) → then_rows number one more ≡ Ok rows → AreRows P (suc room) rows
then_rows_are P room number (Ok row) (Ok rest) rows first others h =
    let e : rows ≡ row ∷ rest = cc in
    let are = others rest refl in
    let few = are.few in
    rw e (record { few = omega arith; kept = All-cons P row rest (first row refl) are.kept })
then_rows_are P room number (Ok row) (Err fault) rows first others h = absurd (cc)
then_rows_are P room number (Err code) more rows first others h = absurd (cc)

rows_from_are : {A : Type 0} (P : A → Type 0) (row_of : List (List ℕ) → Result A Code) → ((fields : List (List ℕ)) (row : A) → row_of fields ≡ Ok row → P row) → (number room : ℕ) (left : List (List (List ℕ))) (rows : List A) → rows_from row_of number room left ≡ Ok rows → AreRows P room rows
rows_from_are P row_of keeps number room [] rows h = let e : rows ≡ [] = cc in rw e (record { few = omega arith; kept = All-nil P })
rows_from_are P row_of keeps number zero (fields ∷ rest) rows h = absurd (cc)
rows_from_are P row_of keeps number (suc room) (fields ∷ rest) rows h =
    then_rows_are P room number (checked row_of fields) (rows_from row_of (number + 1) room rest) rows (checked_keeps P row_of keeps fields) (rows_from_are P row_of keeps (number + 1) room rest) h

rows_of_records_are : {A : Type 0} (P : A → Type 0) (row_of : List (List ℕ) → Result A Code) → ((fields : List (List ℕ)) (row : A) → row_of fields ≡ Ok row → P row) → (columns : List (List ℕ)) (most : ℕ) (left : List (List (List ℕ))) (rows : List A) → rows_of_records row_of columns most left ≡ Ok rows → AreRows P most rows
rows_of_records_are P row_of keeps columns most [] rows h = let e : rows ≡ [] = cc in rw e (record { few = omega arith; kept = All-nil P })
rows_of_records_are P row_of keeps columns most (fields ∷ rest) rows h =
    elim (cases_Bool (is_header columns fields)) [
      | inl e ↦ rows_from_are P row_of keeps 2 most rest rows (rw e at h)
      | inr e ↦ rows_from_are P row_of keeps 1 most (fields ∷ rest) rows (rw e at h)
    ]

-- the rows of a file are at most so many, and each keeps what each row of a record keeps
pub rows_are : {A : Type 0} (P : A → Type 0) (row_of : List (List ℕ) → Result A Code) → ((fields : List (List ℕ)) (row : A) → row_of fields ≡ Ok row → P row) → (columns : List (List ℕ)) (most : ℕ) (bytes : List ℕ) (rows : List A) → rows_of_file row_of columns most bytes ≡ Ok rows → AreRows P most rows
unfolding rows_of_file
rows_are P row_of keeps columns most bytes rows h = rows_of_records_are P row_of keeps columns most _ rows h

-- the rows of a file are at most so many
pub rows_are_few : {A : Type 0} (row_of : List (List ℕ) → Result A Code) (columns : List (List ℕ)) (most : ℕ) (bytes : List ℕ) (rows : List A) → rows_of_file row_of columns most bytes ≡ Ok rows → length rows ≤ most
rows_are_few {A} row_of columns most bytes rows h = (rows_are (λ (row : A). Unit {0}) row_of (λ fields row e. tt) columns most bytes rows h).few

first_number_is_small : (columns : List (List ℕ)) (first : Option (List (List ℕ))) → first_number columns first ≤ 2
first_number_is_small columns None = omega arith
first_number_is_small columns (Some fields) = elim (cases_Bool (is_header columns fields)) [ inl e ↦ rw e (omega arith) | inr e ↦ rw e (omega arith) ]

-- the first row has the number 1 or 2
pub first_row_is_small : (columns : List (List ℕ)) (bytes : List ℕ) → first_row_of columns bytes ≤ 2
unfolding first_row_of
first_row_is_small columns bytes = first_number_is_small columns (first_of _)
