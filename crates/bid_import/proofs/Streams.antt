-- The records of a text one after another: each takes a byte or more.
use Rattle.std.proofs.Common.{◌≡◌, ℕ, zero, suc, ◌+◌, ◌<◌, ◌≤◌, List, [], ◌∷◌, ◌++◌, length, Option, Some, None, Bool, true, false, inl, inr, refl, sym, ap, ◌∙◌, arith, add-one}
use Rattle.std.specs.Prelude.{if◌then◌else◌, ◌==◌, ◌||◌, option_map}
use Rattle.bid_import.specs.Files.{first_of, first_number, first_row_of}
use Rattle.std.proofs.lemmas.Bool.{cases_Bool}
use Rattle.csv.specs.Machine.{Read, next_record, step, ends_at_end, is_end, fields_after, field_after, in_field, start_field, start_record}
use Rattle.csv.specs.Reading.{records_from, records_next, default_config, source_of, pending_of, NextIs, ReadsNext, ReadRecord, TookRecord, Reached, is_bom, strip_bom}
use Rattle.csv.specs.declared.reader.Reader.{Reader}
use Rattle.csv.proofs.ReadFacts.{rows-more, rows-end}
use Rattle.csv.specs.declared.parser.State.{State}
use Rattle.csv.specs.declared.parser.State.TheVariants as st
use Rattle.csv.specs.declared.parser.Action.{Action}
use Rattle.csv.specs.declared.parser.Action.TheVariants as act

-- what is left after a record is no longer than what was there, and shorter where a byte was
left-after : (s : State) (fields : List (List ℕ)) (field xs : List ℕ) (p : Read) → next_record default_config s fields field xs ≡ Some p → length p.2 ≤ length xs
unfolding next_record
left-after s fields field [] p h =
    elim (cases_Bool (ends_at_end s)) [
      | inl e ↦ let same : Some (fields ++ (field ∷ []), st.StartRecord, []) ≡ Some p = rw e at h in let rest : p.2 ≡ [] = cc in rw rest (omega arith)
      | inr e ↦ let none : None ≡ Some p = rw e at h in absurd (cc)
    ]
left-after s fields field (c ∷ rest) p h =
    elim (cases_Bool (is_end (step default_config s c).1)) [
      | inl e ↦ let same : Some (fields_after (step default_config s c).1 fields field, (step default_config s c).0, rest) ≡ Some p = rw e at h in let left : p.2 ≡ rest = cc in rw left (omega arith)
      | inr e ↦
          let more = left-after (step default_config s c).0 (fields_after (step default_config s c).1 fields field) (field_after (step default_config s c).1 c field) rest p (rw e at h) in
          omega arith
    ]

left-cons : (s : State) (fields : List (List ℕ)) (field : List ℕ) (c : ℕ) (rest : List ℕ) (p : Read) → next_record default_config s fields field (c ∷ rest) ≡ Some p → length p.2 ≤ length rest
unfolding next_record
left-cons s fields field c rest p h =
    elim (cases_Bool (is_end (step default_config s c).1)) [
      | inl e ↦ let same : Some (fields_after (step default_config s c).1 fields field, (step default_config s c).0, rest) ≡ Some p = rw e at h in let left : p.2 ≡ rest = cc in rw left (omega arith)
      | inr e ↦ left-after (step default_config s c).0 (fields_after (step default_config s c).1 fields field) (field_after (step default_config s c).1 c field) rest p (rw e at h)
    ]

left-less : (s : State) (xs : List ℕ) (p : Read) → ends_at_end s ≡ false → next_record default_config s [] [] xs ≡ Some p → length p.2 < length xs
unfolding next_record
left-less s [] p between h = let none : None ≡ Some p = rw between at h in absurd (cc)
left-less s (c ∷ rest) p between h = let le = left-cons s [] [] c rest p h in omega arith

-- a record ends between records

end_of_field : (c : ℕ) → is_end (in_field default_config c).1 ≡ true → ends_at_end (in_field default_config c).0 ≡ false
end_of_field c h =
    elim (cases_Bool (c == 44)) [
      | inl e ↦ let no_end : false ≡ true = rw e at h in absurd (cc)
      | inr e ↦ elim (cases_Bool ((c == 13) || (c == 10))) [
        | inl f ↦ elim (cases_Bool (c == 13)) [ inl g ↦ rw (e, g) refl | inr g ↦ let f' : (c == 10) ≡ true = rw g at f in rw (e, g, f') refl ]
        | inr f ↦ let no_end : false ≡ true = rw (e, f) at h in absurd (cc)
      ]
    ]

end_of_start : (c : ℕ) → is_end (start_field default_config c).1 ≡ true → ends_at_end (start_field default_config c).0 ≡ false
end_of_start c h =
    elim (cases_Bool (c == 34)) [
      | inl e ↦ let no_end : false ≡ true = rw e at h in absurd (cc)
      | inr e ↦ rw e (end_of_field c (rw e at h))
    ]

-- a choice whose first arm ends no record
else_of : (b : Bool) (s : State) (a : Action) (x : State × Action) → is_end a ≡ false → (is_end x.1 ≡ true → ends_at_end x.0 ≡ false) → is_end (if b then (s, a) else x).1 ≡ true → ends_at_end (if b then (s, a) else x).0 ≡ false
else_of true s a x none rest h = absurd (cc)
else_of false s a x none rest h = rest h

end_of_record : (c : ℕ) → is_end (start_record default_config c).1 ≡ true → ends_at_end (start_record default_config c).0 ≡ false
end_of_record c h = else_of ((c == 13) || (c == 10)) st.StartRecord act.Skip (start_field default_config c) refl (end_of_start c) h

end_of_step : (s : State) (c : ℕ) → is_end (step default_config s c).1 ≡ true → ends_at_end (step default_config s c).0 ≡ false
end_of_step st.StartRecord c h = end_of_record c h
end_of_step st.StartField c h = end_of_start c h
end_of_step st.InField c h = end_of_field c h
end_of_step st.InQuoted c h = elim (cases_Bool (c == 34)) [ inl e ↦ let no_end : false ≡ true = rw e at h in absurd (cc) | inr e ↦ let no_end : false ≡ true = rw e at h in absurd (cc) ]
end_of_step st.InEscape c h = absurd (cc)
end_of_step st.AfterQuote c h = elim (cases_Bool (c == 34)) [ inl e ↦ let no_end : false ≡ true = rw e at h in absurd (cc) | inr e ↦ rw e (end_of_field c (rw e at h)) ]
end_of_step st.InComment c h = elim (cases_Bool (c == 10)) [ inl e ↦ let no_end : false ≡ true = rw e at h in absurd (cc) | inr e ↦ let no_end : false ≡ true = rw e at h in absurd (cc) ]
end_of_step st.AfterCr c h = else_of (c == 10) st.StartRecord act.Skip (start_record default_config c) refl (end_of_record c) h

between-after : (s : State) (fields : List (List ℕ)) (field xs : List ℕ) (p : Read) → next_record default_config s fields field xs ≡ Some p → ends_at_end p.1 ≡ false
unfolding next_record
between-after s fields field [] p h =
    elim (cases_Bool (ends_at_end s)) [
      | inl e ↦ let same : Some (fields ++ (field ∷ []), st.StartRecord, []) ≡ Some p = rw e at h in let state : p.1 ≡ st.StartRecord = cc in rw state refl
      | inr e ↦ let none : None ≡ Some p = rw e at h in absurd (cc)
    ]
between-after s fields field (c ∷ rest) p h =
    elim (cases_Bool (is_end (step default_config s c).1)) [
      | inl e ↦
          let same : Some (fields_after (step default_config s c).1 fields field, (step default_config s c).0, rest) ≡ Some p = rw e at h in
          let state : p.1 ≡ (step default_config s c).0 = cc in rw state (end_of_step s c e)
      | inr e ↦ between-after (step default_config s c).0 (fields_after (step default_config s c).1 fields field) (field_after (step default_config s c).1 c field) rest p (rw e at h)
    ]

-- any fuel above the length gives the same records

fuel : (n m : ℕ) (s : State) (xs : List ℕ) → ends_at_end s ≡ false → length xs < n → length xs < m → records_from default_config n s xs ≡ records_from default_config m s xs
unfolding records_from
fuel zero m s xs between p q = absurd (omega arith)
fuel (suc n) zero s xs between p q = absurd (omega arith)
fuel (suc n) (suc m) s xs between p q = on (λ s ys b h k. fuel n m s ys b h k) (next_record default_config s [] [] xs) refl
  where
    on : ((s : State) (ys : List ℕ) → ends_at_end s ≡ false → length ys < n → length ys < m → records_from default_config n s ys ≡ records_from default_config m s ys) → (o : Option Read) → next_record default_config s [] [] xs ≡ o → records_next (records_from default_config n) o ≡ records_next (records_from default_config m) o
    on rest None e = refl
    on rest (Some r) e =
        let less = left-less s xs r between e in
        ap (λ rows. r.0 ∷ rows) (rest r.1 r.2 (between-after s [] [] xs r e) (omega arith) (omega arith))

-- the records from a state, of these bytes
abbrev pub left_records : State → List ℕ → List (List (List ℕ))
left_records s xs = records_from default_config (length xs + 1) s xs

more-records : (s : State) (xs : List ℕ) (p : Read) → ends_at_end s ≡ false → next_record default_config s [] [] xs ≡ Some p → left_records s xs ≡ p.0 ∷ left_records p.1 p.2
unfolding records_from
more-records s xs p between h =
    let less = left-less s xs p between h in
    let same = fuel (length xs) (length p.2 + 1) p.1 p.2 (between-after s [] [] xs p h) less (omega arith) in
    rw (add-one, h) (ap (λ rows. p.0 ∷ rows) same)

no-records : (s : State) (xs : List ℕ) → next_record default_config s [] [] xs ≡ None → left_records s xs ≡ []
unfolding records_from
no-records s xs h = rw (add-one, h) refl

-- a turn of the reader takes the next of the records that are left, and with it a byte or more
pub stream-more : {R : Type 0} (rem : R → Option (List ℕ)) (a b : Reader R) (f : List (List ℕ)) (y : List ℕ)
    → a.config ≡ default_config → ends_at_end a.state ≡ false → source_of rem a ≡ Some y → ReadRecord rem a b true f
    → (z : List ℕ) × (source_of rem b ≡ Some z) × (ends_at_end b.state ≡ false) × (left_records a.state y ≡ f ∷ left_records b.state z) × (length z < length y)
unfolding Reached
stream-more rem a b f y config between source read =
    let m = rows-more rem a b f default_config a.state y y [] config source (refl, refl) read in
    let p = m.2.0 in
    let next : next_record default_config a.state [] [] y ≡ Some p = m.2.1 in
    let state : p.1 ≡ b.state = m.2.3.0 in
    let rest : p.2 ≡ m.0 = m.2.3.1 in
    let step = more-records a.state y p between next in
    let first : p.0 ≡ f = sym m.2.2 in
    let less = left-less a.state y p between next in
    (m.0, m.1, ap ends_at_end (sym state) ∙ between-after a.state [] [] y p next, step ∙ cc, rw rest at less)

-- a record that isn't text is the next of those that are left
pub stream-took : {R : Type 0} (rem : R → Option (List ℕ)) (a b : Reader R) (f : List (List ℕ)) (y : List ℕ)
    → a.config ≡ default_config → ends_at_end a.state ≡ false → source_of rem a ≡ Some y → TookRecord rem a b f
    → (rest : List (List (List ℕ))) × (left_records a.state y ≡ f ∷ rest)
stream-took rem a b f y config between source took = next-is (pending_of (rem b.rdr) b) (rw (config, source) at took)
  where
    on : (o : Option Read) (z : List ℕ) → next_record default_config a.state [] [] y ≡ o → NextIs o true f b.state z → (rest : List (List (List ℕ))) × (left_records a.state y ≡ f ∷ rest)
    on None z e n = absurd (cc)
    on (Some p) z e n = (left_records p.1 p.2, more-records a.state y p between e ∙ ap (λ fields. fields ∷ left_records p.1 p.2) (sym n.1))

    next-is : (k : Option (List ℕ)) → ReadsNext default_config a.state (Some y) k true f b.state → (rest : List (List (List ℕ))) × (left_records a.state y ≡ f ∷ rest)
    next-is None r = absurd r
    next-is (Some z) r = on (next_record default_config a.state [] [] y) z refl r

-- and at the end none is left
pub stream-end : {R : Type 0} (rem : R → Option (List ℕ)) (a b : Reader R) (f : List (List ℕ)) (y : List ℕ)
    → a.config ≡ default_config → source_of rem a ≡ Some y → ReadRecord rem a b false f → left_records a.state y ≡ []
stream-end rem a b f y config source read = no-records a.state y (rows-end rem a b f default_config y config source read)

-- nor where no byte is left
pub none-left : (s : State) (xs : List ℕ) → ends_at_end s ≡ false → length xs ≤ 0 → left_records s xs ≡ []
unfolding next_record
none-left s [] between h = no-records s [] (rw between refl)
none-left s (c ∷ rest) between h = absurd (omega arith)

pub strip-shorter : (xs : List ℕ) → length (strip_bom xs) ≤ length xs
unfolding strip_bom
strip-shorter [] = omega arith
strip-shorter (a ∷ []) = omega arith
strip-shorter (a ∷ b ∷ []) = omega arith
strip-shorter (a ∷ b ∷ c ∷ rest) = elim (cases_Bool (is_bom a b c)) [ inl e ↦ rw e (omega arith) | inr e ↦ rw e (omega arith) ]

-- the first record
pub first-is : (columns : List (List ℕ)) (bytes : List ℕ) (o : Option (List (List ℕ))) → o ≡ option_map (λ (p : Read). p.0) (next_record default_config st.StartRecord [] [] (strip_bom bytes)) → first_number columns o ≡ first_row_of columns bytes
unfolding records_from first_row_of
first-is columns bytes o h = ap (first_number columns) (h ∙ on (next_record default_config st.StartRecord [] [] (strip_bom bytes)) refl)
  where
    on : (r : Option Read) → next_record default_config st.StartRecord [] [] (strip_bom bytes) ≡ r → option_map (λ (p : Read). p.0) r ≡ first_of (records_from default_config (length (strip_bom bytes) + 1) st.StartRecord (strip_bom bytes))
    on None e = rw (add-one, e) refl
    on (Some p) e = rw (add-one, e) refl
