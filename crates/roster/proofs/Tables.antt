-- Rows in ascending order of their keys: what a place says of look-ups, and what a put does.
use Rattle.std.proofs.Common.{◌≡◌, ◌≢◌, ◌⊎◌, inl, inr, ℕ, suc, zero, ◌+◌, ◌<◌, ◌≤◌, List, [], ◌∷◌, ◌++◌, length, take, drop, get_or, set, Option, Some, None, Result, Ok, Err, Bool, true, false, refl, sym, ap, ◌∙◌, subst, arith, length-append, length-take}
use Rattle.std.proofs.Math.Seq.{take-append_seam, drop-append_seam}
use Rattle.std.proofs.Math.ListN.{length-set}
use Rattle.std.proofs.lemmas.List.{take-append-drop}
use Rattle.std.proofs.lemmas.List.Edits.{length-insert}
use Rattle.std.specs.Option.{option_map}
use Rattle.std.specs.Prelude.{if◌then◌else◌, IsSome, OnOk, OnErr}
use Rattle.std.specs.List.{insert}
use Rattle.std.specs.List.Sorted.{IsSearchInRange, IsBinarySearchResult}
use Rattle.std.specs.Ordering.{is_eq, ordering_index, ordering_reverse}
use Rattle.std.specs.declared.cmp.Ordering.{Ordering}
use Rattle.std.specs.declared.cmp.Ordering.TheVariants.{Less, Equal, Greater}
use Rattle.std.proofs.lemmas.Cmp.{nat_list_cmp_total, tied_itself}
use Rattle.std.proofs.lemmas.Map.Lookups.{exact_bytes}
use Rattle.roster.specs.declared.table.TheConstants.{MOST_ROWS}
use Rattle.roster.specs.Table.{id_cmp, by_order, AllAbove, Ascend, row_of, place_of, put_row, AllBelow, IsAt, IsGap, IsPlaceFor}

-- the order of ids

pub id_trans : (a b c : List ℕ) → id_cmp a b ≡ Less → id_cmp b c ≡ Less → id_cmp a c ≡ Less
id_trans a b c p q = nat_list_cmp_total.trans a b c p q

pub id_same : (a b : List ℕ) → id_cmp a b ≡ Equal → a ≡ b
id_same a b h = exact_bytes a b h

pub id_itself : (a : List ℕ) → id_cmp a a ≡ Equal
id_itself a = tied_itself nat_list_cmp_total a

pub id_turned : (a b : List ℕ) → id_cmp a b ≡ Greater → id_cmp b a ≡ Less
id_turned a b h = nat_list_cmp_total.antisymm b a ∙ ap ordering_reverse h

pub id_turned_back : (a b : List ℕ) → id_cmp a b ≡ Less → id_cmp b a ≡ Greater
id_turned_back a b h = nat_list_cmp_total.antisymm b a ∙ ap ordering_reverse h

differ : (a b : List ℕ) → a ≢ b → is_eq (id_cmp a b) ≡ false
differ a b ne = on (id_cmp a b) refl
  where
    on : (o : Ordering) → id_cmp a b ≡ o → is_eq o ≡ false
    on Less e = refl
    on Equal e = absurd (ne (id_same a b e))
    on Greater e = refl

-- a row that is missing isn't known
pub missing-known : {R : Type 0} (row : Option R) → row ≡ None → IsSome row → ⊥
missing-known row none some = cc

module _ {R : Type 0} (key : R → List ℕ) where
  above_more : (a b : List ℕ) (rows : List R) → id_cmp a b ≡ Less → AllAbove key b rows → AllAbove key a rows
  above_more a b [] less above = tt
  above_more a b (row ∷ rows) less above = (id_trans a b (key row) less above.0, above_more a b rows less above.1)

  -- a put keeps the order

  above-put : (id : List ℕ) (new : R) (rows : List R) → id_cmp id (key new) ≡ Less → AllAbove key id rows → AllAbove key id (put_row key new rows)
  above-put id new [] less above = (less, tt)
  above-put id new (row ∷ rows) less above = on (id_cmp (key row) (key new)) (above-put id new rows less above.1)
    where
      on : (o : Ordering) → AllAbove key id (put_row key new rows) → AllAbove key id (by_order o (row ∷ put_row key new rows) (new ∷ rows) (new ∷ row ∷ rows))
      on Less rest = (above.0, rest)
      on Equal rest = (less, above.1)
      on Greater rest = (less, above)

  pub ascend-put : (new : R) (rows : List R) → Ascend key rows → Ascend key (put_row key new rows)
  ascend-put new [] up = (tt, tt)
  ascend-put new (row ∷ rows) up = on (id_cmp (key row) (key new)) refl (ascend-put new rows up.1)
    where
      on : (o : Ordering) → id_cmp (key row) (key new) ≡ o → Ascend key (put_row key new rows) → Ascend key (by_order o (row ∷ put_row key new rows) (new ∷ rows) (new ∷ row ∷ rows))
      on Less e rest = (above-put (key row) new rows e up.0, rest)
      on Equal e rest = (subst (λ id. AllAbove key id rows) (id_same (key row) (key new) e) up.0, up.1)
      on Greater e rest = let less = id_turned (key row) (key new) e in ((less, above_more (key new) (key row) rows less up.0), up)

  -- a put row stands for its key

  pub row_of-put : (new : R) (rows : List R) → row_of key (key new) (put_row key new rows) ≡ Some new
  row_of-put new [] = let same = id_itself (key new) in rw same refl
  row_of-put new (row ∷ rows) = on (id_cmp (key row) (key new)) refl (row_of-put new rows)
    where
      on : (o : Ordering) → id_cmp (key row) (key new) ≡ o → row_of key (key new) (put_row key new rows) ≡ Some new → row_of key (key new) (by_order o (row ∷ put_row key new rows) (new ∷ rows) (new ∷ row ∷ rows)) ≡ Some new
      on Less e rest = rw e rest
      on Equal e rest = let same = id_itself (key new) in rw same refl
      on Greater e rest = let same = id_itself (key new) in rw same refl

  -- and all else stays

  pub row_of-others : (new : R) (rows : List R) (id : List ℕ) → id ≢ key new → row_of key id (put_row key new rows) ≡ row_of key id rows
  row_of-others new [] id ne = let other = differ (key new) id (λ e. ne (sym e)) in rw other refl
  row_of-others new (row ∷ rows) id ne = on (id_cmp (key row) (key new)) refl (row_of-others new rows id ne)
    where
      other : is_eq (id_cmp (key new) id) ≡ false
      other = differ (key new) id (λ e. ne (sym e))

      on : (o : Ordering) → id_cmp (key row) (key new) ≡ o → row_of key id (put_row key new rows) ≡ row_of key id rows → row_of key id (by_order o (row ∷ put_row key new rows) (new ∷ rows) (new ∷ row ∷ rows)) ≡ row_of key id (row ∷ rows)
      on Less e rest = ap (λ (r : Option R). if is_eq (id_cmp (key row) id) then Some row else r) rest
      on Equal e rest =
          let gone : is_eq (id_cmp (key row) id) ≡ false = rw (id_same (key row) (key new) e) other in
          rw (other, gone) refl
      on Greater e rest = rw other refl

  -- what a place says

  place-at : (id : List ℕ) (front back : List R) (row : R) → AllBelow key id front → id_cmp (key row) id ≡ Equal → place_of key id (front ++ row ∷ back) ≡ Some (length front)
  place-at id [] back row below here = rw here refl
  place-at id (f ∷ fs) back row below here =
      let first = below.0 in
      let rest = place-at id fs back row below.1 here in
      let one : length fs + 1 ≡ suc (length fs) = omega arith in
      rw (first, rest) (ap Some one)

  row-at : (id : List ℕ) (front back : List R) (row : R) → AllBelow key id front → id_cmp (key row) id ≡ Equal → row_of key id (front ++ row ∷ back) ≡ Some row
  row-at id [] back row below here = rw here refl
  row-at id (f ∷ fs) back row below here = let first = below.0 in rw first (row-at id fs back row below.1 here)

  put-at : (new : R) (front back : List R) (row : R) → AllBelow key (key new) front → id_cmp (key row) (key new) ≡ Equal → put_row key new (front ++ row ∷ back) ≡ front ++ new ∷ back
  put-at new [] back row below here = rw here refl
  put-at new (f ∷ fs) back row below here = let first = below.0 in rw first (ap (λ rows. f ∷ rows) (put-at new fs back row below.1 here))

  none-above : (id : List ℕ) (rows : List R) → AllAbove key id rows → (place_of key id rows ≡ None) × (row_of key id rows ≡ None)
  none-above id [] above = (refl, refl)
  none-above id (row ∷ rows) above =
      let first = id_turned_back id (key row) above.0 in
      let rest = none-above id rows above.1 in
      (let none = rest.0 in rw (first, none) refl, let none = rest.1 in rw (first, none) refl)

  none-gap : (id : List ℕ) (front back : List R) → AllBelow key id front → AllAbove key id back → (place_of key id (front ++ back) ≡ None) × (row_of key id (front ++ back) ≡ None)
  none-gap id [] back below above = none-above id back above
  none-gap id (f ∷ fs) back below above =
      let first = below.0 in
      let rest = none-gap id fs back below.1 above in
      (let none = rest.0 in rw (first, none) refl, let none = rest.1 in rw (first, none) refl)

  put-gap : (new : R) (front back : List R) → AllBelow key (key new) front → AllAbove key (key new) back → put_row key new (front ++ back) ≡ front ++ new ∷ back
  put-gap new [] [] below above = refl
  put-gap new [] (row ∷ rows) below above = let first = id_turned_back (key new) (key row) above.0 in rw first refl
  put-gap new (f ∷ fs) back below above = let first = below.0 in rw first (ap (λ rows. f ∷ rows) (put-gap new fs back below.1 above))

  -- a binary search by key ends at the key, or at the gap for it

  above-get : (a : List ℕ) (xs : List R) (j : ℕ) (d : R) → AllAbove key a xs → j < length xs → id_cmp a (key (get_or xs j d)) ≡ Less
  above-get a [] j d above lt = absurd (omega arith)
  above-get a (x ∷ xs) zero d above lt = above.0
  above-get a (x ∷ xs) (suc j) d above lt = above-get a xs j d above.1 (omega arith)

  index-le : (a b id : List ℕ) → id_cmp a b ≡ Less → ordering_index (id_cmp a id) ≤ ordering_index (id_cmp b id)
  index-le a b id less = on (id_cmp b id) refl
    where
      on : (o : Ordering) → id_cmp b id ≡ o → ordering_index (id_cmp a id) ≤ ordering_index o
      on Less e = let first = id_trans a b id less e in rw first (omega arith)
      on Equal e = let first : id_cmp a id ≡ Less = subst (λ x. id_cmp a x ≡ Less) (id_same b id e) less in rw first (omega arith)
      on Greater e = most (id_cmp a id)
        where
          most : (o : Ordering) → ordering_index o ≤ 2
          most Less = omega arith
          most Equal = omega arith
          most Greater = omega arith

  rises : (id : List ℕ) (xs : List R) → Ascend key xs → (i j : ℕ) (d : R) → i ≤ j → j < length xs → ordering_index (id_cmp (key (get_or xs i d)) id) ≤ ordering_index (id_cmp (key (get_or xs j d)) id)
  rises id [] up i j d le lt = absurd (omega arith)
  rises id (x ∷ xs) up zero zero d le lt = omega arith
  rises id (x ∷ xs) up zero (suc j) d le lt = index-le (key x) (key (get_or xs j d)) id (above-get (key x) xs j d up.0 (omega arith))
  rises id (x ∷ xs) up (suc i) zero d le lt = absurd (omega arith)
  rises id (x ∷ xs) up (suc i) (suc j) d le lt = rises id xs up.1 i j d (omega arith) (omega arith)

  below-take : (id : List ℕ) (i : ℕ) (xs : List R) → i ≤ length xs → ((k : ℕ) (d : R) → k < i → id_cmp (key (get_or xs k d)) id ≡ Less) → AllBelow key id (take i xs)
  below-take id zero xs le h = tt
  below-take id (suc i) [] le h = absurd (omega arith)
  below-take id (suc i) (x ∷ xs) le h = (h 0 x (omega arith), below-take id i xs (omega arith) (λ k d lt. h (suc k) d (omega arith)))

  above-drop : (id : List ℕ) (i : ℕ) (xs : List R) → ((k : ℕ) (d : R) → i ≤ k → k < length xs → id_cmp (key (get_or xs k d)) id ≡ Greater) → AllAbove key id (drop i xs)
  above-drop id zero [] h = tt
  above-drop id zero (x ∷ xs) h = (id_turned (key x) id (h 0 x (omega arith) (omega arith)), above-drop id zero xs (λ k d le lt. h (suc k) d (omega arith) (omega arith)))
  above-drop id (suc i) [] h = tt
  above-drop id (suc i) (x ∷ xs) h = above-drop id i xs (λ k d le lt. h (suc k) d (omega arith) (omega arith))

  -- the rows around a place
  split-at : (i : ℕ) (xs : List R) (d : R) → i < length xs → (xs ≡ take i xs ++ get_or xs i d ∷ drop (suc i) xs) × (i ≡ length (take i xs))
  split-at i [] d lt = absurd (omega arith)
  split-at zero (x ∷ xs) d lt = (refl, refl)
  split-at (suc i) (x ∷ xs) d lt = let rest = split-at i xs d (omega arith) in (ap (λ ys. x ∷ ys) rest.0, ap suc rest.1)

  below-first : (front back : List R) (row : R) → Ascend key (front ++ row ∷ back) → AllBelow key (key row) front
  below-first [] back row up = tt
  below-first (f ∷ fs) back row up = (first fs up.0, below-first fs back row up.1)
    where
      first : (fs : List R) → AllAbove key (key f) (fs ++ row ∷ back) → id_cmp (key f) (key row) ≡ Less
      first [] above = above.0
      first (g ∷ gs) above = first gs above.1

  pub is_at : (id : List ℕ) (rows : List R) (i : ℕ) (d : R) → Ascend key rows → i < length rows → id_cmp (key (get_or rows i d)) id ≡ Equal → IsAt key id rows i
  is_at id rows i d up lt here =
      let parts = split-at i rows d lt in
      let row = get_or rows i d in
      record {
        front = take i rows;
        row = row;
        back = drop (suc i) rows;
        split = parts.0;
        count = parts.1;
        below = subst (λ x. AllBelow key x (take i rows)) (id_same (key row) id here) (below-first (take i rows) (drop (suc i) rows) row (subst (Ascend key) parts.0 up));
        here = here;
      }

  pub searched : (id : List ℕ) (rows : List R) (r : Result ℕ ℕ) → Ascend key rows → IsSearchInRange r (length rows) → IsBinarySearchResult (λ y. id_cmp (key y) id) rows r → IsPlaceFor key id rows r
  searched id [] (Ok i) up range found = absurd (omega arith)
  searched id (x ∷ xs) (Ok i) up range found = is_at id (x ∷ xs) i x up range (found x)
  searched id rows (Err i) up range found =
      let parts = found (rises id rows up) in
      record {
        front = take i rows;
        back = drop i rows;
        split = sym (take-append-drop i rows);
        count = omega (arith, length-take i rows, range);
        below = below-take id i rows range (λ k d lt. parts.0 k d (omega arith) lt);
        above = above-drop id i rows (λ k d le lt. parts.1 k d le lt);
      }

  -- what a found place says of look-ups and of a put

  pub found_place : (id : List ℕ) (rows : List R) (i : ℕ) → IsAt key id rows i → place_of key id rows ≡ Some i
  found_place id rows i at = ap (place_of key id) at.split ∙ place-at id at.front at.back at.row at.below at.here ∙ ap Some (sym at.count)

  pub place-of-row : (id : List ℕ) (rows : List R) (i : ℕ) (row : R) → Ascend key rows → i < length rows → row ≡ get_or rows i row → is_eq (id_cmp (key row) id) ≡ true → place_of key id rows ≡ Some i
  place-of-row id rows i row up lt read same =
      let here : id_cmp (key (get_or rows i row)) id ≡ Equal = subst (λ x. id_cmp (key x) id ≡ Equal) read (on (id_cmp (key row) id) same) in
      found_place id rows i (is_at id rows i row up lt here)
    where
      on : (o : Ordering) → is_eq o ≡ true → o ≡ Equal
      on Less e = absurd cc
      on Equal e = refl
      on Greater e = absurd cc

  -- the row at the place of an id has it

  place-step : (b : Bool) (later : Option ℕ) (i : ℕ) → (if b then Some 0 else option_map (λ n. n + 1) later) ≡ Some i → ((b ≡ true) × (i ≡ 0)) ⊎ ((n : ℕ) × (later ≡ Some n) × (i ≡ suc n))
  place-step true later i found = inl (refl, let first : 0 ≡ i = cc in sym first)
  place-step false None i found = absurd cc
  place-step false (Some n) i found = inr (n, refl, let next : i ≡ n + 1 = cc in omega (arith, next))

  pub place-within : (id : List ℕ) (rows : List R) (i : ℕ) → place_of key id rows ≡ Some i → i < length rows
  place-within id [] i found = absurd cc
  place-within id (row ∷ rows) i found = on (place-step (is_eq (id_cmp (key row) id)) (place_of key id rows) i found) (place-within id rows)
    where
      on : ((is_eq (id_cmp (key row) id) ≡ true) × (i ≡ 0)) ⊎ ((n : ℕ) × (place_of key id rows ≡ Some n) × (i ≡ suc n)) → ((n : ℕ) → place_of key id rows ≡ Some n → n < length rows) → i < length (row ∷ rows)
      on (inl first) rest = omega (arith, first.1)
      on (inr next) rest = omega (arith, next.2, rest next.0 next.1)

  pub row-of-place : (id : List ℕ) (rows : List R) (i : ℕ) (d : R) → place_of key id rows ≡ Some i → is_eq (id_cmp (key (get_or rows i d)) id) ≡ true
  row-of-place id [] i d found = absurd cc
  row-of-place id (row ∷ rows) i d found = on (place-step (is_eq (id_cmp (key row) id)) (place_of key id rows) i found) (λ n. row-of-place id rows n d)
    where
      on : ((is_eq (id_cmp (key row) id) ≡ true) × (i ≡ 0)) ⊎ ((n : ℕ) × (place_of key id rows ≡ Some n) × (i ≡ suc n))
          → ((n : ℕ) → place_of key id rows ≡ Some n → is_eq (id_cmp (key (get_or rows n d)) id) ≡ true) → is_eq (id_cmp (key (get_or (row ∷ rows) i d)) id) ≡ true
      on (inl first) rest = subst (λ k. is_eq (id_cmp (key (get_or (row ∷ rows) k d)) id) ≡ true) (sym first.1) first.0
      on (inr next) rest = subst (λ k. is_eq (id_cmp (key (get_or (row ∷ rows) k d)) id) ≡ true) (sym next.2) (rest next.0 next.1)

  pub found_row : (id : List ℕ) (rows : List R) (i : ℕ) (d : R) → IsAt key id rows i → (i < length rows) × (row_of key id rows ≡ Some (get_or rows i d))
  found_row id rows i d at =
      let lt : i < length rows = omega (arith, at.count, ap length at.split, length-append at.front (at.row ∷ at.back)) in
      let read : get_or rows i d ≡ at.row = ap (λ xs. get_or xs i d) at.split ∙ ap (λ k. get_or (at.front ++ at.row ∷ at.back) k d) at.count ∙ middle at.front at.back at.row d in
      (lt, ap (row_of key id) at.split ∙ row-at id at.front at.back at.row at.below at.here ∙ ap Some (sym read))
    where
      middle : (front back : List R) (row d : R) → get_or (front ++ row ∷ back) (length front) d ≡ row
      middle [] back row d = refl
      middle (f ∷ fs) back row d = middle fs back row d

  pub set_put : (new : R) (rows : List R) (i : ℕ) → IsAt key (key new) rows i → set rows i new ≡ put_row key new rows
  set_put new rows i at =
      ap (λ xs. set xs i new) at.split ∙ ap (λ k. set (at.front ++ at.row ∷ at.back) k new) at.count ∙ middle at.front at.back at.row
      ∙ sym (put-at new at.front at.back at.row at.below at.here) ∙ ap (put_row key new) (sym at.split)
    where
      middle : (front back : List R) (row : R) → set (front ++ row ∷ back) (length front) new ≡ front ++ new ∷ back
      middle [] back row = refl
      middle (f ∷ fs) back row = ap (λ ys. f ∷ ys) (middle fs back row)

  pub missing : (id : List ℕ) (rows : List R) (i : ℕ) → IsGap key id rows i → (place_of key id rows ≡ None) × (row_of key id rows ≡ None)
  missing id rows i gap =
      let none = none-gap id gap.front gap.back gap.below gap.above in
      (ap (place_of key id) gap.split ∙ none.0, ap (row_of key id) gap.split ∙ none.1)

  pub insert_put : (new : R) (rows : List R) (i : ℕ) → IsGap key (key new) rows i → (i ≤ length rows) × (insert rows i new ≡ put_row key new rows)
  insert_put new rows i gap =
      let le : i ≤ length rows = omega (arith, gap.count, ap length gap.split, length-append gap.front gap.back) in (
        le,
        ap (λ xs. insert xs i new) gap.split ∙ ap (λ k. insert (gap.front ++ gap.back) k new) gap.count ∙ middle gap.front gap.back
            ∙ sym (put-gap new gap.front gap.back gap.below gap.above) ∙ ap (put_row key new) (sym gap.split),
      )
    where
      middle : (front back : List R) → insert (front ++ back) (length front) new ≡ front ++ new ∷ back
      middle front back = let a = take-append_seam front back in let b = drop-append_seam front back in cc

  pub length-put_some : (new : R) (rows : List R) (i : ℕ) → IsAt key (key new) rows i → length (put_row key new rows) ≡ length rows
  length-put_some new rows i at = ap length (sym (set_put new rows i at)) ∙ length-set rows i new

  pub length-put_none : (new : R) (rows : List R) (i : ℕ) → IsGap key (key new) rows i → length (put_row key new rows) ≡ length rows + 1
  length-put_none new rows i gap = let both = insert_put new rows i gap in ap length (sym both.1) ∙ length-insert rows i new both.0

  -- after a put that may have failed

  pub few-after : {E : Type 0} (r : Result (Unit {0}) E) (new : R) (old now : List R) (i : ℕ) → OnOk r (now ≡ put_row key new old) → OnErr r (now ≡ old) → IsGap key (key new) old i → length old < MOST_ROWS → length now ≤ MOST_ROWS
  few-after (Ok u) new old now i put kept gap few = omega (arith, ap length put, length-put_none new old i gap)
  few-after (Err e) new old now i put kept gap few = omega (arith, ap length kept)

  pub ascend-after : {E : Type 0} (r : Result (Unit {0}) E) (new : R) (old now : List R) → OnOk r (now ≡ put_row key new old) → OnErr r (now ≡ old) → Ascend key old → Ascend key now
  ascend-after (Ok u) new old now put kept up = rw put (ascend-put new old up)
  ascend-after (Err e) new old now put kept up = rw kept up

  pub stands-after : {E : Type 0} (r : Result (Unit {0}) E) (new : R) (old now : List R) → OnOk r (now ≡ put_row key new old) → OnOk r (row_of key (key new) now ≡ Some new)
  stands-after (Ok u) new old now put = rw put (row_of-put new old)
  stands-after (Err e) new old now put = tt

  pub others-after : {E : Type 0} (r : Result (Unit {0}) E) (new : R) (old now : List R) → OnOk r (now ≡ put_row key new old) → OnOk r ((id : List ℕ) → id ≢ key new → row_of key id now ≡ row_of key id old)
  others-after (Ok u) new old now put = λ id ne. rw put (row_of-others new old id ne)
  others-after (Err e) new old now put = tt
