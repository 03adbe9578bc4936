-- The places that the rows of a paper name are those of the reviewers that are listed for it.
use Rattle.std.proofs.Common.{◌≡◌, ℕ, zero, suc, ◌+◌, ◌<◌, ◌⊎◌, inl, inr, Bool, true, false, cond, ◌||◌, List, [], ◌∷◌, ◌++◌, length, get_or, append_assoc, Option, Some, None, is_some, ℤ, pos, refl, sym, ap, ◌∙◌, subst, arith}
use Rattle.std.specs.Prelude.{◌↔◌, IsTrue, if◌then◌else◌, filter, slice_get}
use Rattle.std.specs.List.{Contains, list_any, range_with_len}
use Rattle.std.specs.List.Sorted.{IsStrictlyIncreasing}
use Rattle.std.specs.Option.{option_map, option_map_or}
use Rattle.std.specs.Ordering.{is_eq, int_eq}
use Rattle.std.specs.declared.cmp.Ordering.TheVariants.{Less}
use Rattle.std.proofs.lemmas.List.Elements.{Contains-append_cases, Contains-append_left, Contains-append_right}
use Rattle.std.proofs.lemmas.List.FromFn.{length-range_with_len, get_or-range_with_len}
use Rattle.std.proofs.lemmas.Option.{slice_get_within, slice_get-get_or}
use Rattle.roster.specs.Table.{id_cmp, AllAbove, Ascend, row_of, place_of}
use Rattle.roster.specs.declared.rows.PaperRow.{PaperRow}
use Rattle.roster.specs.declared.rows.ReviewerRow.{ReviewerRow}
use Rattle.roster.proofs.Tables.{id_itself}
use Rattle.score_spec.specs.PairTables.{Entry, Entries, PairsValue, entry_id, reviewers_of, value_of, has_pair}
use Rattle.score_spec.specs.Scores.{has_row}
use Rattle.score_spec.proofs.PairKeys.{reviewer-here}
use Rattle.score_spec.proofs.PairTables.{equal_same, above-none}
use Rattle.venue_rules.specs.Candidates.{is_listed}
use Rattle.venue_rules.specs.Listed.{is_listed_at, AreListed, place_with, places_in, places_by, is_lock, row_places}
use Rattle.venue_rules.specs.Venues.{VenueValue, reviewer_key}

-- tests and lists

either : (a b : Bool) → (a || b) ≡ true → (a ≡ true) ⊎ (b ≡ true)
either true b e = inl refl
either false b e = inr e

by_first : (a b : Bool) → a ≡ true → (a || b) ≡ true
by_first true b e = refl
by_first false b e = absurd cc

by_second : (a b : Bool) → b ≡ true → (a || b) ≡ true
by_second true b e = refl
by_second false b e = e

pub cons-cases : {X : Type 0} (x : X) (xs : List X) (y : X) → Contains (x ∷ xs) y → (x ≡ y) ⊎ Contains xs y
cons-cases x xs y (zero, lt, is) = inl is
cons-cases x xs y (suc k, lt, is) = inr (k, omega arith, is)

pub there : {X : Type 0} (x : X) (xs : List X) (y : X) → Contains xs y → Contains (x ∷ xs) y
there x xs y (k, lt, is) = (suc k, omega arith, is)

pub here : {X : Type 0} (x : X) (xs : List X) → Contains (x ∷ xs) x
here x xs = (0, omega arith, refl)

pub in_none : {X : Type 0} (y : X) → Contains [] y → ⊥
in_none y (k, lt, is) = absurd (omega arith)

pub range-more : (n a j : ℕ) → a + n ≡ j → range_with_len a (n + 1) ≡ range_with_len a n ++ j ∷ []
range-more zero a j e = let is : a ≡ j = omega arith in ap (λ x. x ∷ []) is
range-more (suc n) a j e = let one : suc n + 1 ≡ suc (n + 1) = omega arith in rw one (ap (λ xs. a ∷ xs) (range-more n (a + 1) j (omega arith)))

-- a place and the id of the row that stands there

same-ids : (a b : List ℕ) → a ≡ b → is_eq (id_cmp a b) ≡ true
same-ids a b e = subst (λ x. is_eq (id_cmp a x) ≡ true) e (ap is_eq (id_itself a))

place-row : (rows : List ReviewerRow) (id : List ℕ) (j : ℕ) → place_of reviewer_key id rows ≡ Some j → (row : ReviewerRow) × (slice_get rows j ≡ Some row) × (row.id ≡ id)
place-row [] id j e = absurd cc
place-row (row ∷ rows) id j e = on (is_eq (id_cmp row.id id)) refl (place_of reviewer_key id rows) (λ n h. place-row rows id n h) e
  where
    on : (b : Bool) → is_eq (id_cmp row.id id) ≡ b → (p : Option ℕ) → ((n : ℕ) → p ≡ Some n → (r : ReviewerRow) × (slice_get rows n ≡ Some r) × (r.id ≡ id))
        → (if b then Some 0 else option_map (λ n. n + 1) p) ≡ Some j → (r : ReviewerRow) × (slice_get (row ∷ rows) j ≡ Some r) × (r.id ≡ id)
    on true same p rest e = let first : j ≡ zero = cc in (row, rw first refl, equal_same row.id id same)
    on false same None rest e = absurd cc
    on false same (Some n) rest e =
        let found = rest n refl in
        let one : n + 1 ≡ suc n = omega arith in
        let next : j ≡ suc n = cc in
        (found.0, rw next found.1, found.2)

above-at : (id : List ℕ) (rows : List ReviewerRow) (j : ℕ) (row : ReviewerRow) → AllAbove reviewer_key id rows → slice_get rows j ≡ Some row → id_cmp id row.id ≡ Less
above-at id [] j row above e = absurd cc
above-at id (r ∷ rs) zero row above e = let same : r ≡ row = cc in subst (λ (x : ReviewerRow). id_cmp id x.id ≡ Less) same above.0
above-at id (r ∷ rs) (suc j) row above e = above-at id rs j row above.1 e

row-place : (rows : List ReviewerRow) (j : ℕ) (row : ReviewerRow) → Ascend reviewer_key rows → slice_get rows j ≡ Some row → place_of reviewer_key row.id rows ≡ Some j
row-place [] j row up e = absurd cc
row-place (r ∷ rs) zero row up e =
    let same : r ≡ row = cc in
    let first = same-ids r.id row.id (ap (λ (x : ReviewerRow). x.id) same) in
    rw first refl
row-place (r ∷ rs) (suc j) row up e =
    let less = above-at r.id rs j row up.0 e in
    let rest = row-place rs j row up.1 e in
    let one : j + 1 ≡ suc j = omega arith in
    rw (less, rest) (ap Some one)

with-place : (rows : List ReviewerRow) (id : List ℕ) (j : ℕ) → Contains (place_with rows id) j → place_of reviewer_key id rows ≡ Some j
with-place rows id j has = on (place_of reviewer_key id rows) has
  where
    single : (n : ℕ) → (n ≡ j) ⊎ Contains [] j → n ≡ j
    single n (inl is) = is
    single n (inr none) = absurd (in_none j none)

    on : (p : Option ℕ) → Contains (option_map_or (λ place. place ∷ []) p []) j → p ≡ Some j
    on None has = absurd (in_none j has)
    on (Some n) has = ap Some (single n (cons-cases n [] j has))

place-with : (rows : List ReviewerRow) (id : List ℕ) (j : ℕ) → place_of reviewer_key id rows ≡ Some j → Contains (place_with rows id) j
place-with rows id j e = rw e (here j [])

-- entries of a table

module _ {V : Type 0} where
  named-row : (rows : List ReviewerRow) (entries : Entries V) (j : ℕ) → Contains (places_in rows entries) j → (row : ReviewerRow) × (slice_get rows j ≡ Some row) × (is_some (value_of entries row.id) ≡ true)
  named-row rows [] j has = absurd (in_none j has)
  named-row rows (entry ∷ entries) j has = on (Contains-append_cases (place_with rows entry.id) (places_in rows entries) j has) (named-row rows entries j)
    where
      on : Contains (place_with rows entry.id) j ⊎ Contains (places_in rows entries) j
          → (Contains (places_in rows entries) j → (row : ReviewerRow) × (slice_get rows j ≡ Some row) × (is_some (value_of entries row.id) ≡ true))
          → (row : ReviewerRow) × (slice_get rows j ≡ Some row) × (is_some (value_of (entry ∷ entries) row.id) ≡ true)
      on (inl first) rest =
          let found = place-row rows entry.id j (with-place rows entry.id j first) in
          let id = found.0.id in
          (found.0, found.1, reviewer-here entry entries id ∙ by_first (is_eq (id_cmp entry.id id)) (is_some (value_of entries id)) (same-ids entry.id id (sym found.2)))
      on (inr later) rest =
          let found = rest later in
          let id = found.0.id in
          (found.0, found.1, reviewer-here entry entries id ∙ by_second (is_eq (id_cmp entry.id id)) (is_some (value_of entries id)) found.2)

  row-named : (rows : List ReviewerRow) (entries : Entries V) (j : ℕ) (row : ReviewerRow) → Ascend reviewer_key rows → slice_get rows j ≡ Some row → is_some (value_of entries row.id) ≡ true → Contains (places_in rows entries) j
  row-named rows [] j row up at has = absurd cc
  row-named rows (entry ∷ entries) j row up at has =
      on (either (is_eq (id_cmp entry.id row.id)) (is_some (value_of entries row.id)) (sym (reviewer-here entry entries row.id) ∙ has)) (row-named rows entries j row up at)
    where
      on : (is_eq (id_cmp entry.id row.id) ≡ true) ⊎ (is_some (value_of entries row.id) ≡ true) → (is_some (value_of entries row.id) ≡ true → Contains (places_in rows entries) j)
          → Contains (place_with rows entry.id ++ places_in rows entries) j
      on (inl same) rest =
          let place : place_of reviewer_key entry.id rows ≡ Some j = subst (λ id. place_of reviewer_key id rows ≡ Some j) (sym (equal_same entry.id row.id same)) (row-place rows j row up at) in
          Contains-append_left (place_with rows entry.id) (places_in rows entries) j (place-with rows entry.id j place)
      on (inr later) rest = Contains-append_right (place_with rows entry.id) (places_in rows entries) j (rest later)

-- tables of values

abbrev has_value : Entries (PairsValue ℤ) → List ℕ → List ℕ → Bool
has_value tables paper reviewer = list_any (λ source. has_pair source.value paper reviewer) tables

named-by : (rows : List ReviewerRow) (tables : Entries (PairsValue ℤ)) (paper : List ℕ) (j : ℕ) → Contains (places_by rows tables paper) j → (row : ReviewerRow) × (slice_get rows j ≡ Some row) × (has_value tables paper row.id ≡ true)
named-by rows [] paper j has = absurd (in_none j has)
named-by rows (table ∷ tables) paper j has = on (Contains-append_cases (places_in rows (reviewers_of table.value paper)) (places_by rows tables paper) j has) (named-by rows tables paper j)
  where
    on : Contains (places_in rows (reviewers_of table.value paper)) j ⊎ Contains (places_by rows tables paper) j
        → (Contains (places_by rows tables paper) j → (row : ReviewerRow) × (slice_get rows j ≡ Some row) × (has_value tables paper row.id ≡ true))
        → (row : ReviewerRow) × (slice_get rows j ≡ Some row) × (has_value (table ∷ tables) paper row.id ≡ true)
    on (inl first) rest =
        let found = named-row rows (reviewers_of table.value paper) j first in
        (found.0, found.1, by_first (has_pair table.value paper found.0.id) (has_value tables paper found.0.id) found.2)
    on (inr later) rest =
        let found = rest later in
        (found.0, found.1, by_second (has_pair table.value paper found.0.id) (has_value tables paper found.0.id) found.2)

by-named : (rows : List ReviewerRow) (tables : Entries (PairsValue ℤ)) (paper : List ℕ) (j : ℕ) (row : ReviewerRow) → Ascend reviewer_key rows → slice_get rows j ≡ Some row → has_value tables paper row.id ≡ true → Contains (places_by rows tables paper) j
by-named rows [] paper j row up at has = absurd cc
by-named rows (table ∷ tables) paper j row up at has = on (either (has_pair table.value paper row.id) (has_value tables paper row.id) has) (by-named rows tables paper j row up at)
  where
    on : (has_pair table.value paper row.id ≡ true) ⊎ (has_value tables paper row.id ≡ true) → (has_value tables paper row.id ≡ true → Contains (places_by rows tables paper) j)
        → Contains (places_in rows (reviewers_of table.value paper) ++ places_by rows tables paper) j
    on (inl first) rest = Contains-append_left (places_in rows (reviewers_of table.value paper)) (places_by rows tables paper) j (row-named rows (reviewers_of table.value paper) j row up at first)
    on (inr later) rest = Contains-append_right (places_in rows (reviewers_of table.value paper)) (places_by rows tables paper) j (rest later)

-- one turn of a loop over entries, or over tables

pub entry-turn : {V : Type 0} (rows : List ReviewerRow) (entry : Entry V) (before after : Entries V) (places now whole : List ℕ) → before ≡ entry ∷ after → now ≡ places ++ place_with rows entry.id
    → places ++ places_in rows before ≡ whole → now ++ places_in rows after ≡ whole
entry-turn rows entry before after places now whole split is so_far =
    ap (λ ps. ps ++ places_in rows after) is ∙ append_assoc places (place_with rows entry.id) (places_in rows after) ∙ ap (λ entries. places ++ places_in rows entries) (sym split) ∙ so_far

pub lock-turn : (rows : List ReviewerRow) (mark : Entry ℤ) (before after : Entries ℤ) (places now whole : List ℕ) → before ≡ mark ∷ after → now ≡ places ++ (if is_lock mark then place_with rows mark.id else [])
    → places ++ places_in rows (filter is_lock before) ≡ whole → now ++ places_in rows (filter is_lock after) ≡ whole
lock-turn rows mark before after places now whole split is so_far =
    ap (λ ps. ps ++ places_in rows (filter is_lock after)) is
    ∙ append_assoc places (if is_lock mark then place_with rows mark.id else []) (places_in rows (filter is_lock after))
    ∙ ap (λ ps. places ++ ps) (on (is_lock mark) (filter is_lock after))
    ∙ ap (λ marks. places ++ places_in rows (filter is_lock marks)) (sym split)
    ∙ so_far
  where
    on : (b : Bool) (left : Entries ℤ) → (if b then place_with rows mark.id else []) ++ places_in rows left ≡ places_in rows (cond b (mark ∷ left) left)
    on true left = refl
    on false left = refl

pub table-turn : (rows : List ReviewerRow) (paper : List ℕ) (table : Entry (PairsValue ℤ)) (before after : Entries (PairsValue ℤ)) (places now whole : List ℕ) → before ≡ table ∷ after → now ≡ places ++ places_in rows (reviewers_of table.value paper)
    → places ++ places_by rows before paper ≡ whole → now ++ places_by rows after paper ≡ whole
table-turn rows paper table before after places now whole split is so_far =
    ap (λ ps. ps ++ places_by rows after paper) is
    ∙ append_assoc places (places_in rows (reviewers_of table.value paper)) (places_by rows after paper)
    ∙ ap (λ tables. places ++ places_by rows tables paper) (sym split)
    ∙ so_far

-- marks of 1

locks : (marks : Entries ℤ) (id : List ℕ) → Ascend entry_id marks → is_some (value_of (filter is_lock marks) id) ≡ int_eq (option_map_or (λ mark. mark) (value_of marks id) (pos 0)) (pos 1)
locks [] id up = refl
locks (mark ∷ marks) id up = on (is_lock mark) refl (is_eq (id_cmp mark.id id)) refl (locks marks id up.1)
  where
    left : Entries ℤ
    left = filter is_lock marks

    on : (b : Bool) → is_lock mark ≡ b → (c : Bool) → is_eq (id_cmp mark.id id) ≡ c
        → is_some (value_of left id) ≡ int_eq (option_map_or (λ mark. mark) (value_of marks id) (pos 0)) (pos 1)
        → is_some (value_of (cond b (mark ∷ left) left) id)
        ≡ int_eq (option_map_or (λ mark. mark) (option_map (λ entry. entry.value) (if c then Some mark else row_of entry_id id marks)) (pos 0)) (pos 1)
    on true lock true same rest = rw same (sym lock)
    on true lock false same rest = rw same rest
    on false lock true same rest =
        let none = above-none id marks (subst (λ x. AllAbove entry_id x marks) (equal_same mark.id id same) up.0) in
        rest ∙ ap (λ value. int_eq (option_map_or (λ mark. mark) value (pos 0)) (pos 1)) none ∙ sym lock
    on false lock false same rest = rest

-- all rows of a paper

module _ (venue : VenueValue) (paper : PaperRow) where
  at-row : (j : ℕ) (row : ReviewerRow) → slice_get venue.reviewers j ≡ Some row → is_listed venue paper row ≡ true → IsTrue (is_listed_at venue paper j)
  at-row j row at listed = subst (λ found. IsTrue (option_map_or (is_listed venue paper) found false)) (sym at) listed

  pub row-at : (j : ℕ) → IsTrue (is_listed_at venue paper j) → (row : ReviewerRow) × (slice_get venue.reviewers j ≡ Some row) × (is_listed venue paper row ≡ true)
  row-at j listed = on (slice_get venue.reviewers j) refl listed
    where
      on : (found : Option ReviewerRow) → slice_get venue.reviewers j ≡ found → IsTrue (option_map_or (is_listed venue paper) found false) → (row : ReviewerRow) × (slice_get venue.reviewers j ≡ Some row) × (is_listed venue paper row ≡ true)
      on None at listed = absurd cc
      on (Some row) at listed = (row, at, listed)

  abbrev by_values : ReviewerRow → Bool
  by_values row = has_value venue.scores.values paper.id row.id

  abbrev by_bid : ReviewerRow → Bool
  by_bid row = has_pair venue.scores.bids paper.id row.id

  abbrev by_lock : ReviewerRow → Bool
  by_lock row = int_eq (option_map_or (λ mark. mark) (value_of (reviewers_of venue.marks paper.id) row.id) (pos 0)) (pos 1)

  abbrev of_values : List ℕ
  of_values = places_by venue.reviewers venue.scores.values paper.id

  abbrev of_bids : List ℕ
  of_bids = places_in venue.reviewers (reviewers_of venue.scores.bids paper.id)

  abbrev of_locks : List ℕ
  of_locks = places_in venue.reviewers (filter is_lock (reviewers_of venue.marks paper.id))

  named-listed : (j : ℕ) → Ascend entry_id (reviewers_of venue.marks paper.id) → Contains (row_places venue paper.id) j → IsTrue (is_listed_at venue paper j)
  named-listed j up has = on_rows (Contains-append_cases (of_values ++ of_bids) of_locks j has)
    where
      listed : (row : ReviewerRow) → slice_get venue.reviewers j ≡ Some row → ((by_values row || by_bid row) || by_lock row) ≡ true → IsTrue (is_listed_at venue paper j)
      listed row at some = at-row j row at (by_second venue.settings.all_pairs ((by_values row || by_bid row) || by_lock row) some)

      on_scores : Contains of_values j ⊎ Contains of_bids j → IsTrue (is_listed_at venue paper j)
      on_scores (inl value) =
          let found = named-by venue.reviewers venue.scores.values paper.id j value in
          let row = found.0 in
          listed row found.1 (by_first (by_values row || by_bid row) (by_lock row) (by_first (by_values row) (by_bid row) found.2))
      on_scores (inr bid) =
          let found = named-row venue.reviewers (reviewers_of venue.scores.bids paper.id) j bid in
          let row = found.0 in
          listed row found.1 (by_first (by_values row || by_bid row) (by_lock row) (by_second (by_values row) (by_bid row) found.2))

      on_rows : Contains (of_values ++ of_bids) j ⊎ Contains of_locks j → IsTrue (is_listed_at venue paper j)
      on_rows (inl scored) = on_scores (Contains-append_cases of_values of_bids j scored)
      on_rows (inr lock) =
          let found = named-row venue.reviewers (filter is_lock (reviewers_of venue.marks paper.id)) j lock in
          let row = found.0 in
          listed row found.1 (by_second (by_values row || by_bid row) (by_lock row) (sym (locks (reviewers_of venue.marks paper.id) row.id up) ∙ found.2))

  listed-named : (j : ℕ) → venue.settings.all_pairs ≡ false → Ascend reviewer_key venue.reviewers → Ascend entry_id (reviewers_of venue.marks paper.id)
      → IsTrue (is_listed_at venue paper j) → Contains (row_places venue paper.id) j
  listed-named j few rows marks listed = on_all (either venue.settings.all_pairs ((by_values row || by_bid row) || by_lock row) found.2)
    where
      found : (row : ReviewerRow) × (slice_get venue.reviewers j ≡ Some row) × (is_listed venue paper row ≡ true)
      found = row-at j listed

      row : ReviewerRow
      row = found.0

      on_scores : (by_values row ≡ true) ⊎ (by_bid row ≡ true) → Contains (of_values ++ of_bids) j
      on_scores (inl value) = Contains-append_left of_values of_bids j (by-named venue.reviewers venue.scores.values paper.id j row rows found.1 value)
      on_scores (inr bid) = Contains-append_right of_values of_bids j (row-named venue.reviewers (reviewers_of venue.scores.bids paper.id) j row rows found.1 bid)

      on_rows : ((by_values row || by_bid row) ≡ true) ⊎ (by_lock row ≡ true) → Contains (row_places venue paper.id) j
      on_rows (inl scored) = Contains-append_left (of_values ++ of_bids) of_locks j (on_scores (either (by_values row) (by_bid row) scored))
      on_rows (inr lock) =
          Contains-append_right (of_values ++ of_bids) of_locks j
          (row-named venue.reviewers (filter is_lock (reviewers_of venue.marks paper.id)) j row rows found.1 (locks (reviewers_of venue.marks paper.id) row.id marks ∙ lock))

      on_all : (venue.settings.all_pairs ≡ true) ⊎ (((by_values row || by_bid row) || by_lock row) ≡ true) → Contains (row_places venue paper.id) j
      on_all (inl all) = absurd (cc (few, all))
      on_all (inr some) = on_rows (either (by_values row || by_bid row) (by_lock row) some)

  pub few-listed : (named places : List ℕ) → venue.settings.all_pairs ≡ false → Ascend reviewer_key venue.reviewers → Ascend entry_id (reviewers_of venue.marks paper.id)
      → named ≡ row_places venue paper.id → IsStrictlyIncreasing places → ((j : ℕ) → Contains places j ↔ Contains named j) → AreListed venue paper places
  few-listed named places few rows marks is up same = record {
    ascend = up;
    listed = λ j. (
      λ has. named-listed j marks (subst (λ xs. Contains xs j) is ((same j).0 has)),
      λ listed. (same j).1 (subst (λ xs. Contains xs j) (sym is) (listed-named j few rows marks listed)),
    );
  }

  pub all-listed : (count : ℕ) → venue.settings.all_pairs ≡ true → count ≡ length venue.reviewers → AreListed venue paper (range_with_len 0 count)
  all-listed count all is = record {
    ascend = λ k lt.
        let few = length-range_with_len 0 count in
        let first = get_or-range_with_len 0 count k 0 (omega arith) in
        let second = get_or-range_with_len 0 count (k + 1) 0 (omega arith) in
        omega arith;
    listed = λ j. (
      λ (k, lt, same).
          let few = length-range_with_len 0 count in
          let there = get_or-range_with_len 0 count k j (omega arith) in
          let here : k ≡ j = omega arith in
          let below : j < length venue.reviewers = omega arith in
          on j below,
      λ listed.
          let found = row-at j listed in
          let below = slice_get_within venue.reviewers j found.0 found.1 in
          let first : 0 + j ≡ j = omega arith in
          (j, omega (arith, length-range_with_len 0 count), get_or-range_with_len 0 count j j (omega arith) ∙ first),
    );
  }
    where
      on : (j : ℕ) → j < length venue.reviewers → IsTrue (is_listed_at venue paper j)
      on j below = of_rows venue.reviewers refl
        where
          of_rows : (rows : List ReviewerRow) → venue.reviewers ≡ rows → IsTrue (is_listed_at venue paper j)
          of_rows [] none = absurd (omega (arith, ap length none))
          of_rows (row ∷ rows) some =
              let stands = get_or venue.reviewers j row in
              at-row j stands (slice_get-get_or venue.reviewers j row below) (by_first venue.settings.all_pairs (has_row venue.scores paper.id stands.id || by_lock stands) all)
