-- What the rows so far and the records that are left give, from one record to the next.
use Rattle.std.proofs.Common.{◌≡◌, ℕ, zero, suc, ◌+◌, ◌-◌, ◌<◌, ◌≤◌, ◌⊎◌, inl, inr, List, [], ◌∷◌, ◌++◌, length, Option, Some, Result, Ok, Err, Bool, true, false, refl, sym, ap, ◌∙◌, arith, length-append, append_assoc, append-nil}
use Rattle.std.specs.Prelude.{◌==◌, ◌&&◌, nat_le, if◌then◌else◌, OnOk}
use Rattle.std.specs.List.{list_all}
use Rattle.std.specs.Str.{is_utf8}
use Rattle.std.proofs.lemmas.Bool.{cases_Bool, eqb-true, leb-true, leb-false, ne_eqb, false≢true}
use Rattle.std.proofs.Math.Bool.{and-false}
use Rattle.std.proofs.lemmas.Slice.Eq.{slice_eq-Decides, bytes_eq-Decides}
use Rattle.bid_import.specs.declared.fault.Code.{Code}
use Rattle.bid_import.specs.declared.fault.Code.TheVariants.{TooMany, NotUtf8}
use Rattle.bid_import.specs.declared.fault.ImportFault.{ImportFault}
use Rattle.bid_import.specs.declared.fault.ImportFault.TheVariants.{Memory, Bad}
use Rattle.bid_import.specs.Files.{with_row, rows_from, is_header, rows_of_records, rows_of_file, Imports}
use Rattle.bid_import.specs.RecordLoop.{with_rows, rest_of, Goes, Adds, IsProgress, unread_fault}
use Rattle.bid_import.proofs.Streams.{left_records, stream-took}
use Rattle.bid_import.proofs.Texts.{texts-all}
use Rattle.csv.specs.Machine.{ends_at_end}
use Rattle.csv.specs.Reading.{ExplainsRead, default_config, source_of, strip_bom}
use Rattle.csv.specs.declared.error.ErrorKind.{ErrorKind}
use Rattle.csv.specs.declared.error.ErrorKind.TheVariants as kind
use Rattle.csv.specs.declared.reader.Reader.{Reader}
use Rattle.csv.specs.declared.parser.State.TheVariants as st

and-parts : (a b : Bool) → a && b ≡ true → (a ≡ true) × (b ≡ true)
and-parts true b h = (refl, h)
and-parts false b h = absurd (cc)

-- fields that aren't text aren't the names of the columns
pub no-header : (columns : List (List ℕ)) (fields : List (List ℕ)) → list_all is_utf8 columns ≡ true → list_all is_utf8 fields ≡ false → is_header columns fields ≡ false
no-header columns fields texts none =
    elim (cases_Bool (is_header columns fields)) [
      | inl e ↦ let same : columns ≡ fields = (slice_eq-Decides bytes_eq-Decides columns fields (is_header columns fields) refl).0 e in absurd (false≢true (sym none ∙ ap (list_all is_utf8) (sym same) ∙ texts))
      | inr e ↦ e
    ]

module _ {A : Type 0} (row_of : List (List ℕ) → Result A Code) (columns : List (List ℕ)) (most : ℕ) where
  -- the first record, with the names of the columns
  pub skips : (number : ℕ) (rows : List A) (fields : List (List ℕ)) → IsProgress most number rows → (number == 0) && is_header columns fields ≡ true
      → ((rest : List (List (List ℕ))) → rest_of row_of columns most number rows (fields ∷ rest) ≡ rest_of row_of columns most (number + 1) rows rest) × IsProgress most (number + 1) rows
  skips number rows fields progress h =
      let two = and-parts (number == 0) (is_header columns fields) h in
      let first : number ≡ 0 = eqb-true number 0 two.0 in
      let header : is_header columns fields ≡ true = two.1 in
      let none : rows ≡ [] = progress.fresh first in
      let room : most - 0 ≡ most = omega arith in
      (λ rest. rw (first, none, header, room) refl, record { counted = omega arith; few = progress.few; fresh = λ zero_is. absurd (omega arith); bounded = progress.bounded })

  -- any other record is read by its own number
  reads : (number : ℕ) (rows : List A) (fields : List (List ℕ)) → IsProgress most number rows → (number == 0) && is_header columns fields ≡ false
      → (rest : List (List (List ℕ))) → rest_of row_of columns most number rows (fields ∷ rest) ≡ with_rows rows (rows_from row_of (number + 1) (most - length rows) (fields ∷ rest))
  reads number rows fields progress h rest =
      elim (cases_Bool (number == 0)) [
        | inl e ↦
            let first : number ≡ 0 = eqb-true number 0 e in
            let none : rows ≡ [] = progress.fresh first in
            let room : most - 0 ≡ most = omega arith in
            let other : is_header columns fields ≡ false = rw e at h in
            rw (first, none, other, room) refl
        | inr e ↦ rw e refl
      ]

  with_rows-one : (rows : List A) (row : A) (more : Result (List A) (ℕ × Code)) → with_rows rows (with_row row more) ≡ with_rows (rows ++ row ∷ []) more
  with_rows-one rows row (Ok others) = ap Ok (sym (append_assoc rows (row ∷ []) others))
  with_rows-one rows row (Err fault) = refl

  next-number : (number : ℕ) (rows : List A) (rest : List (List (List ℕ))) → 1 ≤ number → rest_of row_of columns most number rows rest ≡ with_rows rows (rows_from row_of (number + 1) (most - length rows) rest)
  next-number number rows rest some = let later : (number == 0) ≡ false = ne_eqb number 0 (λ e. absurd (omega arith)) in rw later refl

  -- a record of text that isn't skipped
  pub adds : (result : Result (Unit {0}) ImportFault) (number : ℕ) (old new : List A) (fields : List (List ℕ)) → list_all is_utf8 fields ≡ true → IsProgress most number old
      → (number == 0) && is_header columns fields ≡ false → Adds result row_of most (number + 1) old new fields
      → Goes result (rest_of row_of columns most number old) (rest_of row_of columns most (number + 1) new) fields × OnOk result (IsProgress most (number + 1) new)
  adds (Ok u) number old new fields text progress h added =
      let room : most - length old ≡ suc (most - (length old + 1)) = omega (arith, added.0) in
      let row = added.1 in
      let good : row_of fields ≡ Ok row = added.2 in
      let longer : length new ≡ length old + 1 = ap length added.3 ∙ length-append old (row ∷ []) in (
        λ rest.
            let here = reads number old fields progress h rest in
            let there = next-number (number + 1) new rest (omega arith) in
            let step : with_rows old (rows_from row_of (number + 1) (most - length old) (fields ∷ rest)) ≡ with_rows old (with_row row (rows_from row_of (number + 1 + 1) (most - (length old + 1)) rest)) = rw (room, text, good) refl in
            here ∙ step ∙ with_rows-one old row (rows_from row_of (number + 1 + 1) (most - (length old + 1)) rest) ∙ sym (there ∙ rw (longer, added.3) refl),
        record { counted = omega (arith, progress.counted); few = omega (arith, added.0); fresh = λ zero_is. absurd (omega arith); bounded = progress.bounded },
      )
  adds (Err Memory) number old new fields text progress h added = (tt, tt)
  adds (Err (Bad row code)) number old new fields text progress h added =
      (λ rest. reads number old fields progress h rest ∙ fault rest added.1, tt)
    where
      fault : (rest : List (List (List ℕ))) → ((code ≡ TooMany) × (most ≤ length old)) ⊎ ((length old < most) × (row_of fields ≡ Err code)) → with_rows old (rows_from row_of (number + 1) (most - length old) (fields ∷ rest)) ≡ Err (row, code)
      fault rest (inl full) =
          let none : most - length old ≡ zero = omega (arith, full.1) in
          let what = full.0 in let where_is = added.0 in
          rw (none, what, where_is) refl
      fault rest (inr wrong) =
          let room : most - length old ≡ suc (most - (length old + 1)) = omega (arith, wrong.0) in
          let bad : row_of fields ≡ Err code = wrong.1 in
          let where_is = added.0 in
          rw (room, text, bad, where_is) refl

  -- a record that isn't text
  pub refuses : (number : ℕ) (rows : List A) (fields : List (List ℕ)) (rest : List (List (List ℕ))) → list_all is_utf8 columns ≡ true → list_all is_utf8 fields ≡ false → IsProgress most number rows
      → rest_of row_of columns most number rows (fields ∷ rest) ≡ Err (number + 1, if nat_le most (length rows) then TooMany else NotUtf8)
  refuses number rows fields rest texts none progress =
      let other = no-header columns fields texts none in
      let skipped : (number == 0) && is_header columns fields ≡ false = rw other (and-false (number == 0)) in
      reads number rows fields progress skipped rest ∙ elim (cases_Bool (nat_le most (length rows))) [
        | inl full ↦
            let most_few = leb-true most (length rows) full in
            let room : most - length rows ≡ zero = omega (arith, most_few) in
            rw (room, full) refl
        | inr some ↦
            let few = leb-false most (length rows) some in
            let room : most - length rows ≡ suc (most - (length rows + 1)) = omega (arith, few) in
            rw (room, some, none) refl
      ]

  with_rows-none : (r : Result (List A) (ℕ × Code)) → with_rows [] r ≡ r
  with_rows-none (Ok rows) = refl
  with_rows-none (Err fault) = refl

  -- at first all records are left
  pub starts : (bytes : List ℕ) → rows_of_file row_of columns most bytes ≡ rest_of row_of columns most 0 [] (left_records st.StartRecord (strip_bom bytes))
  unfolding rows_of_file
  starts bytes = sym (with_rows-none (rows_of_records row_of columns most (left_records st.StartRecord (strip_bom bytes))))

  -- and at the end none
  pub ends : (number : ℕ) (rows : List A) → rest_of row_of columns most number rows [] ≡ Ok rows
  ends number rows = elim (cases_Bool (number == 0)) [ inl e ↦ rw e (ap Ok (append-nil rows)) | inr e ↦ rw e (ap Ok (append-nil rows)) ]

  pub fails : (fault : ImportFault) (whole : Result (List A) (ℕ × Code)) (before after : List (List (List ℕ)) → Result (List A) (ℕ × Code)) (fields : List (List ℕ)) (rest : List (List (List ℕ)))
      → Goes (Err fault) before after fields → whole ≡ before (fields ∷ rest) → Imports (Err fault) whole
  fails Memory whole before after fields rest goes same = tt
  fails (Bad row code) whole before after fields rest goes same = same ∙ goes rest

  -- and of a record that isn't text, or for want of memory
  pub stops : {R : Type 0} (rem : R → Option (List ℕ)) (a b : Reader R) (why : ErrorKind) (number : ℕ) (rows : List A) (y : List ℕ) (whole : Result (List A) (ℕ × Code))
      → list_all is_utf8 columns ≡ true → IsProgress most number rows → a.config ≡ default_config → ends_at_end a.state ≡ false → source_of rem a ≡ Some y → ExplainsRead rem a b true why
      → whole ≡ rest_of row_of columns most number rows (left_records a.state y) → Imports (Err (unread_fault why most number rows)) whole
  stops rem a b (kind.Utf8 pos err) number rows y whole texts progress config between source explained same =
      let fields = explained.1 in
      let left = stream-took rem a b fields y config between source explained.2 in
      let none : list_all is_utf8 fields ≡ false = elim (cases_Bool (list_all is_utf8 fields)) [ inl e ↦ absurd (explained.3 (texts-all fields e)) | inr e ↦ e ] in
      same ∙ ap (rest_of row_of columns most number rows) left.1 ∙ refuses number rows fields left.0 texts none progress
  stops rem a b (kind.Io e) number rows y whole texts progress config between source explained same = tt
  stops rem a b (kind.UnequalLengths pos expected len) number rows y whole texts progress config between source explained same = tt
  stops rem a b kind.OutOfMemory number rows y whole texts progress config between source explained same = tt
  stops rem a b (kind.Serialize text) number rows y whole texts progress config between source explained same = tt
  stops rem a b (kind.Deserialize pos err) number rows y whole texts progress config between source explained same = tt
