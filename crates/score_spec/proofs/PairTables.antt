-- Tables of pairs: what a put does to look-ups, to the order and to the count.
use Rattle.std.proofs.Common.{◌≡◌, ◌≢◌, ◌⊎◌, inl, inr, ℕ, ◌+◌, ◌≤◌, ◌==◌, ◌&&◌, not, List, [], ◌∷◌, ◌++◌, append_assoc, length, Option, Some, None, Result, Ok, Err, Bool, true, false, true≢false, is_some, unwrap_or, refl, sym, ap, ap₂, ◌∙◌, arith}
use Rattle.std.proofs.lemmas.Bool.{eqb-false}
use Rattle.std.specs.Prelude.{if◌then◌else◌, filter, OnOk, OnErr}
use Rattle.std.specs.Option.{option_map}
use Rattle.std.specs.Ordering.{is_eq}
use Rattle.std.specs.declared.cmp.Ordering.{Ordering}
use Rattle.std.specs.declared.cmp.Ordering.TheVariants.{Less, Equal, Greater}
use Rattle.match_rules.specs.Id.{is_id}
use Rattle.roster.specs.Table.{id_cmp, by_order, AllAbove, AllBelow, Ascend, row_of}
use Rattle.roster.proofs.Tables.{id_same, id_trans, id_turned, id_turned_back, id_itself, ascend-put, row_of-put, row_of-others}
use Rattle.score_spec.specs.declared.pairs.TheConstants.{MOST_PAIR_ROWS}
use Rattle.score_spec.specs.PairTables.{Entry, Entries, entry_id, value_of, put_value, without, PairsValue, reviewers_of, value_of_pair, put_pair, pair_count, AreIds, AreReviewers, HaveReviewers, ArePairs, IsPairTable}

-- two ids are the same or not
pub same_or_other : (a b : List ℕ) → (a ≡ b) ⊎ (a ≢ b)
same_or_other a b = on (id_cmp a b) refl
  where
    on : (o : Ordering) → id_cmp a b ≡ o → (a ≡ b) ⊎ (a ≢ b)
    on Less e = inr (λ same. absurd (let itself = id_itself b in let less : id_cmp b b ≡ Less = rw same at e in cc))
    on Equal e = inl (id_same a b e)
    on Greater e = inr (λ same. absurd (let itself = id_itself b in let greater : id_cmp b b ≡ Greater = rw same at e in cc))

pub equal_same : (a b : List ℕ) → is_eq (id_cmp a b) ≡ true → a ≡ b
equal_same a b h = on (id_cmp a b) refl h
  where
    on : (o : Ordering) → id_cmp a b ≡ o → is_eq o ≡ true → a ≡ b
    on Less e h = absurd (true≢false (sym h))
    on Equal e h = id_same a b e
    on Greater e h = absurd (true≢false (sym h))

pub differ : (a b : List ℕ) → a ≢ b → is_eq (id_cmp a b) ≡ false
differ a b ne = on (is_eq (id_cmp a b)) refl
  where
    on : (t : Bool) → is_eq (id_cmp a b) ≡ t → t ≡ false
    on true e = absurd (ne (equal_same a b e))
    on false e = refl

-- a pair that finds room adds no row too many
pub has-room : (count pairs : ℕ) (has : Bool) (more : ℕ) → count ≡ pairs → count ≤ MOST_PAIR_ROWS → ((pairs == MOST_PAIR_ROWS) && not has) ≡ false → more ≡ (if has then 0 else 1) → count + more ≤ MOST_PAIR_ROWS
has-room count pairs true more is few room m = omega (arith, is, few, m)
has-room count pairs false more is few room m = on (pairs == MOST_PAIR_ROWS) refl room
  where
    on : (full : Bool) → (pairs == MOST_PAIR_ROWS) ≡ full → (full && true) ≡ false → count + more ≤ MOST_PAIR_ROWS
    on true e room = absurd cc
    on false e room = let less : pairs ≢ MOST_PAIR_ROWS = eqb-false pairs MOST_PAIR_ROWS e in omega (arith, is, few, m, less)

module _ {V : Type 0} where
  abbrev pub entry : List ℕ → V → Entry V
  entry id value = record { id = id; value = value }

  -- a value stands, and all else stays

  pub value-put : (id : List ℕ) (value : V) (entries : Entries V) → value_of (put_value id value entries) id ≡ Some value
  value-put id value entries = ap (option_map (λ e. e.value)) (row_of-put entry_id (entry id value) entries)

  pub value-others : (id : List ℕ) (value : V) (entries : Entries V) (other : List ℕ) → other ≢ id → value_of (put_value id value entries) other ≡ value_of entries other
  value-others id value entries other ne = ap (option_map (λ e. e.value)) (row_of-others entry_id (entry id value) entries other ne)

  pub ascend-value : (id : List ℕ) (value : V) (entries : Entries V) → Ascend entry_id entries → Ascend entry_id (put_value id value entries)
  ascend-value id value entries up = ascend-put entry_id (entry id value) entries up

  pub ids-put : (id : List ℕ) (value : V) (entries : Entries V) → is_id id ≡ true → AreIds entries → AreIds (put_value id value entries)
  ids-put id value [] good ids = (good, tt)
  ids-put id value (e ∷ es) good ids = on (id_cmp e.id id) (ids-put id value es good ids.1)
    where
      on : (o : Ordering) → AreIds (put_value id value es) → AreIds (by_order o (e ∷ put_value id value es) (entry id value ∷ es) (entry id value ∷ e ∷ es))
      on Less rest = (ids.0, rest)
      on Equal rest = (good, ids.1)
      on Greater rest = (good, ids)

  -- nothing is below the first id

  pub above-none : (id : List ℕ) (entries : Entries V) → AllAbove entry_id id entries → value_of entries id ≡ None
  above-none id [] above = refl
  above-none id (e ∷ es) above = let first = id_turned_back id e.id above.0 in rw first (above-none id es above.1)

  above-lower : (a b : List ℕ) (entries : Entries V) → id_cmp a b ≡ Less → AllAbove entry_id b entries → AllAbove entry_id a entries
  above-lower a b [] less above = tt
  above-lower a b (e ∷ es) less above = (id_trans a b e.id less above.0, above-lower a b es less above.1)

  -- the value that is there already changes nothing
  pub put-same : (id : List ℕ) (value : V) (entries : Entries V) → Ascend entry_id entries → value_of entries id ≡ Some value → put_value id value entries ≡ entries
  put-same id value [] up found = absurd cc
  put-same id value (e ∷ es) up found = on (id_cmp e.id id) refl found (put-same id value es up.1)
    where
      on : (o : Ordering) → id_cmp e.id id ≡ o → option_map (λ x. x.value) (if is_eq o then Some e else row_of entry_id id es) ≡ Some value → (value_of es id ≡ Some value → put_value id value es ≡ es)
          → by_order o (e ∷ put_value id value es) (entry id value ∷ es) (entry id value ∷ e ∷ es) ≡ e ∷ es
      on Less h found rest = ap (λ xs. e ∷ xs) (rest found)
      on Equal h found rest = let same = id_same e.id id h in let value_is : e.value ≡ value = cc in ap (λ x. x ∷ es) (ap₂ entry (sym same) (sym value_is))
      on Greater h found rest = absurd (let none = above-none id es (above-lower id e.id es (id_turned e.id id h) up.0) in let some : value_of es id ≡ Some value = found in cc)

  -- an id above the others goes last

  put-last : (id : List ℕ) (value : V) (front : Entries V) → AllBelow entry_id id front → put_value id value front ≡ front ++ entry id value ∷ []
  put-last id value [] below = refl
  put-last id value (e ∷ es) below = let first = below.0 in rw first (ap (λ xs. e ∷ xs) (put-last id value es below.1))

  below-next : (id : List ℕ) (value : V) (front back : Entries V) → Ascend entry_id (front ++ entry id value ∷ back) → AllBelow entry_id id front
  below-next id value [] back up = tt
  below-next id value (f ∷ fs) back up = (first fs up.0, below-next id value fs back up.1)
    where
      first : (rest : Entries V) → AllAbove entry_id f.id (rest ++ entry id value ∷ back) → id_cmp f.id id ≡ Less
      first [] above = above.0
      first (g ∷ gs) above = first gs above.1

  pub put-next : (id : List ℕ) (value : V) (front back whole : Entries V) → Ascend entry_id whole → front ++ entry id value ∷ back ≡ whole → put_value id value front ++ back ≡ whole
  put-next id value front back whole up same =
      let last = put-last id value front (below-next id value front back (rw same up)) in
      ap (λ xs. xs ++ back) last ∙ append_assoc front (entry id value ∷ []) back ∙ same

  -- an id taken out

  row-others : (id : List ℕ) (entries : Entries V) (other : List ℕ) → other ≢ id → row_of entry_id other (without id entries) ≡ row_of entry_id other entries
  row-others id [] other ne = refl
  row-others id (e ∷ es) other ne = on (is_eq (id_cmp e.id id)) refl (row-others id es other ne)
    where
      on : (b : Bool) → is_eq (id_cmp e.id id) ≡ b → row_of entry_id other (without id es) ≡ row_of entry_id other es
          → row_of entry_id other (if b then es else e ∷ without id es) ≡ row_of entry_id other (e ∷ es)
      on true h rest = let gone = differ e.id other (λ same. ne (sym same ∙ equal_same e.id id h)) in rw gone refl
      on false h rest = ap (λ (found : Option (Entry V)). if is_eq (id_cmp e.id other) then Some e else found) rest

  pub without-others : (id : List ℕ) (entries : Entries V) (other : List ℕ) → other ≢ id → value_of (without id entries) other ≡ value_of entries other
  without-others id entries other ne = ap (option_map (λ x. x.value)) (row-others id entries other ne)

  -- the entries whose ids pass

  row-filter : (test : List ℕ → Bool) (entries : Entries V) (id : List ℕ) → row_of entry_id id (filter (λ e. test e.id) entries) ≡ (if test id then row_of entry_id id entries else None)
  row-filter test [] id = on (test id)
    where
      on : (b : Bool) → ◌≡◌ {A = Option (Entry V)} None (if b then None else None)
      on true = refl
      on false = refl
  row-filter test (e ∷ es) id = on (test e.id) (is_eq (id_cmp e.id id)) refl refl (row-filter test es id)
    where
      on : (b s : Bool) → test e.id ≡ b → is_eq (id_cmp e.id id) ≡ s → row_of entry_id id (filter (λ e. test e.id) es) ≡ (if test id then row_of entry_id id es else None)
          → row_of entry_id id (if b then e ∷ filter (λ e. test e.id) es else filter (λ e. test e.id) es) ≡ (if test id then (if s then Some e else row_of entry_id id es) else None)
      on true true g h rest = let same = equal_same e.id id h in let passes : test id ≡ true = rw (← same) g in rw (h, passes) refl
      on true false g h rest = rw h rest
      on false true g h rest = let same = equal_same e.id id h in let fails : test id ≡ false = rw (← same) g in rest ∙ rw fails refl
      on false false g h rest = rest

  pub value-filter : (test : List ℕ → Bool) (entries : Entries V) (id : List ℕ) (none : V) → unwrap_or (value_of (filter (λ e. test e.id) entries) id) none ≡ (if test id then unwrap_or (value_of entries id) none else none)
  value-filter test entries id none = rw (row-filter test entries id) (on (test id))
    where
      on : (b : Bool) → unwrap_or (option_map (λ x. x.value) (if b then row_of entry_id id entries else None)) none ≡ (if b then unwrap_or (value_of entries id) none else none)
      on true = refl
      on false = refl

  -- a value that a place of the map was left with

  pub put-through : {A E : Type 0} (r : Result A E) (change : V → V) (id : List ℕ) (first old new : V) (table after : Entries V) → value_of table id ≡ Some old → after ≡ put_value id new table
      → OnOk r (new ≡ change old) → OnOk r (after ≡ put_value id (change (unwrap_or (value_of table id) first)) table)
  put-through (Ok u) change id first old new table after found ends put = rw found (ends ∙ ap (λ value. put_value id value table) put)
  put-through (Err e) change id first old new table after found ends put = tt

  pub kept-through : {A E : Type 0} (r : Result A E) (id : List ℕ) (old new : V) (table after : Entries V) → Ascend entry_id table → value_of table id ≡ Some old → after ≡ put_value id new table
      → OnErr r (new ≡ old) → OnErr r (after ≡ table)
  kept-through (Ok u) id old new table after up found ends kept = tt
  kept-through (Err e) id old new table after up found ends kept = ends ∙ ap (λ value. put_value id value table) kept ∙ put-same id old table up found

  -- how many ids there are

  pub length-put : (id : List ℕ) (value : V) (entries : Entries V) → Ascend entry_id entries → length (put_value id value entries) ≡ length entries + (if is_some (value_of entries id) then 0 else 1)
  length-put id value [] up = refl
  length-put id value (e ∷ es) up = on (id_cmp e.id id) refl (length-put id value es up.1)
    where
      on : (o : Ordering) → id_cmp e.id id ≡ o → length (put_value id value es) ≡ length es + (if is_some (value_of es id) then 0 else 1)
          → length (by_order o (e ∷ put_value id value es) (entry id value ∷ es) (entry id value ∷ e ∷ es)) ≡ length (e ∷ es) + (if is_some (option_map (λ x. x.value) (if is_eq o then Some e else row_of entry_id id es)) then 0 else 1)
      on Less h rest = omega (arith, rest)
      on Equal h rest = omega arith
      on Greater h rest = let none = above-none id es (above-lower id e.id es (id_turned e.id id h) up.0) in rw none (omega arith)

module _ {V : Type 0} where
  reviewers-put : (paper : List ℕ) (reviewers : Entries V) (table : PairsValue V) → reviewers_of (put_value paper reviewers table) paper ≡ reviewers
  reviewers-put paper reviewers table = ap (λ found. unwrap_or found []) (value-put paper reviewers table)

  reviewers-others : (paper : List ℕ) (reviewers : Entries V) (table : PairsValue V) (other : List ℕ) → other ≢ paper → reviewers_of (put_value paper reviewers table) other ≡ reviewers_of table other
  reviewers-others paper reviewers table other ne = ap (λ found. unwrap_or found []) (value-others paper reviewers table other ne)

  -- the value of a pair stands, and all else stays

  pub pair-put : (paper reviewer : List ℕ) (value : V) (table : PairsValue V) → value_of_pair (put_pair paper reviewer value table) paper reviewer ≡ Some value
  pair-put paper reviewer value table =
      ap (λ entries. value_of entries reviewer) (reviewers-put paper (put_value reviewer value (reviewers_of table paper)) table) ∙ value-put reviewer value (reviewers_of table paper)

  pub pair-others : (paper reviewer : List ℕ) (value : V) (table : PairsValue V) (other : List ℕ) (another : List ℕ) → (other ≢ paper) ⊎ (another ≢ reviewer)
      → value_of_pair (put_pair paper reviewer value table) other another ≡ value_of_pair table other another
  pair-others paper reviewer value table other another apart = on (same_or_other other paper) apart
    where
      old : Entries V
      old = reviewers_of table paper

      on : (other ≡ paper) ⊎ (other ≢ paper) → (other ≢ paper) ⊎ (another ≢ reviewer) → value_of_pair (put_pair paper reviewer value table) other another ≡ value_of_pair table other another
      on (inr ne) apart = ap (λ entries. value_of entries another) (reviewers-others paper (put_value reviewer value (reviewers_of table paper)) table other ne)
      on (inl same) (inl ne) = absurd (ne same)
      on (inl same) (inr ne) =
          rw same (ap (λ entries. value_of entries another) (reviewers-put paper (put_value reviewer value (reviewers_of table paper)) table) ∙ value-others reviewer value (reviewers_of table paper) another ne)

  -- the order

  all-put : (paper : List ℕ) (reviewers : Entries V) (table : PairsValue V) → AreReviewers reviewers → HaveReviewers table → HaveReviewers (put_value paper reviewers table)
  all-put paper reviewers [] new old = (new, tt)
  all-put paper reviewers (e ∷ es) new old = on (id_cmp e.id paper) (all-put paper reviewers es new old.1)
    where
      on : (o : Ordering) → HaveReviewers (put_value paper reviewers es)
          → HaveReviewers (by_order o (e ∷ put_value paper reviewers es) (record { id = paper; value = reviewers } ∷ es) (record { id = paper; value = reviewers } ∷ e ∷ es))
      on Less rest = (old.0, rest)
      on Equal rest = (new, old.1)
      on Greater rest = (new, old)

  ascend-found : (paper : List ℕ) (table : PairsValue V) → HaveReviewers table → Ascend entry_id (reviewers_of table paper)
  ascend-found paper [] all = tt
  ascend-found paper (e ∷ es) all = on (is_eq (id_cmp e.id paper)) (ascend-found paper es all.1)
    where
      on : (b : Bool) → Ascend entry_id (reviewers_of es paper) → Ascend entry_id (unwrap_or (option_map (λ x. x.value) (if b then Some e else row_of entry_id paper es)) [])
      on true rest = all.0.ascend
      on false rest = rest

  ids-found : (paper : List ℕ) (table : PairsValue V) → HaveReviewers table → AreIds (reviewers_of table paper)
  ids-found paper [] all = tt
  ids-found paper (e ∷ es) all = on (is_eq (id_cmp e.id paper)) (ids-found paper es all.1)
    where
      on : (b : Bool) → AreIds (reviewers_of es paper) → AreIds (unwrap_or (option_map (λ x. x.value) (if b then Some e else row_of entry_id paper es)) [])
      on true rest = all.0.ids
      on false rest = rest

  some-put : (id : List ℕ) (value : V) (entries : Entries V) → 1 ≤ length (put_value id value entries)
  some-put id value [] = omega arith
  some-put id value (e ∷ es) = on (id_cmp e.id id)
    where
      on : (o : Ordering) → 1 ≤ length (by_order o (e ∷ put_value id value es) (record { id = id; value = value } ∷ es) (record { id = id; value = value } ∷ e ∷ es))
      on Less = omega arith
      on Equal = omega arith
      on Greater = omega arith

  pub pairs-put : (paper reviewer : List ℕ) (value : V) (table : PairsValue V) → is_id paper ≡ true → is_id reviewer ≡ true → ArePairs table → ArePairs (put_pair paper reviewer value table)
  pairs-put paper reviewer value table good_paper good_reviewer pairs =
      let old = reviewers_of table paper in
      let new : AreReviewers (put_value reviewer value (reviewers_of table paper)) = record {
        ids = ids-put reviewer value old good_reviewer (ids-found paper table pairs.reviewers);
        ascend = ascend-value reviewer value old (ascend-found paper table pairs.reviewers);
        some = some-put reviewer value old;
      } in
      record {
        ids = ids-put paper (put_value reviewer value old) table good_paper pairs.ids;
        papers = ascend-value paper (put_value reviewer value old) table pairs.papers;
        reviewers = all-put paper (put_value reviewer value old) table new pairs.reviewers;
      }

  -- the count

  count-value : (paper : List ℕ) (reviewers : Entries V) (table : PairsValue V) → Ascend entry_id table → pair_count (put_value paper reviewers table) + length (reviewers_of table paper) ≡ pair_count table + length reviewers
  count-value paper reviewers [] up = omega arith
  count-value paper reviewers (e ∷ es) up = on (id_cmp e.id paper) refl (count-value paper reviewers es up.1)
    where
      on : (o : Ordering) → id_cmp e.id paper ≡ o → pair_count (put_value paper reviewers es) + length (reviewers_of es paper) ≡ pair_count es + length reviewers
          → pair_count (by_order o (e ∷ put_value paper reviewers es) (record { id = paper; value = reviewers } ∷ es) (record { id = paper; value = reviewers } ∷ e ∷ es))
          + length (unwrap_or (option_map (λ x. x.value) (if is_eq o then Some e else row_of entry_id paper es)) []) ≡ pair_count (e ∷ es) + length reviewers
      on Less h rest = omega (arith, rest)
      on Equal h rest = omega arith
      on Greater h rest = let none = above-none paper es (above-lower paper e.id es (id_turned e.id paper h) up.0) in rw none (omega arith)

  pub count-put : (paper reviewer : List ℕ) (value : V) (table : PairsValue V) → ArePairs table
      → pair_count (put_pair paper reviewer value table) ≡ pair_count table + (if is_some (value_of_pair table paper reviewer) then 0 else 1)
  count-put paper reviewer value table pairs =
      let old = reviewers_of table paper in
      omega (arith, count-value paper (put_value reviewer value old) table pairs.papers, length-put reviewer value old (ascend-found paper table pairs.reviewers))

  pub table-put : (paper reviewer : List ℕ) (value : V) (table : PairsValue V) (count more : ℕ) → is_id paper ≡ true → is_id reviewer ≡ true → IsPairTable table count → more ≡ (if is_some (value_of_pair table paper reviewer) then 0 else 1)
      → count + more ≤ MOST_PAIR_ROWS → IsPairTable (put_pair paper reviewer value table) (count + more)
  table-put paper reviewer value table count more good_paper good_reviewer whole more_is few = record {
    pairs = pairs-put paper reviewer value table good_paper good_reviewer whole.pairs;
    exact = omega (arith, whole.exact, more_is, count-put paper reviewer value table whole.pairs);
    few = few;
  }
