-- Maps from texts as lists of entries: what look-ups and writes of the map are in the list.
use Rattle.std.proofs.Common.{◌≡◌, ◌-◌, ℕ, List, [], ◌∷◌, Option, Some, None, Bool, true, false, true≢false, is_some, length, refl, sym, ap, ◌∙◌, MutBor}
use Rattle.std.proofs.lemmas.List.{length-map}
use Rattle.std.proofs.lemmas.Option.{slice_get-map}
use Rattle.std.specs.Prelude.{IsSome, IsTrue, OnSome, slice_get, if◌then◌else◌, filter, string_cmp}
use Rattle.std.specs.BTreeMap.{insert_entry, is_at}
use Rattle.std.specs.Cmp.Lexicographic.{slice_cmp}
use Rattle.std.specs.Global.{Global}
use Rattle.std.specs.List.Sorted.{IsStrictlySortedBy}
use Rattle.std.specs.Map.{keys_of, lookup, set_value, remove_entry}
use Rattle.std.specs.Option.{option_map, option_copied_mut}
use Rattle.std.specs.Ordering.{nat_cmp, is_eq, ordering_reverse, match_ordering}
use Rattle.std.specs.String.{string_bytes}
use Rattle.std.specs.declared.cmp.Ordering.{Ordering}
use Rattle.std.specs.declared.cmp.Ordering.TheVariants.{Less, Equal, Greater}
use Rattle.std.specs.declared.string.String.{String}
use Rattle.std.proofs.lemmas.Cmp.{nat_list_cmp_total}
use Rattle.roster.specs.Table.{id_cmp, AllAbove, Ascend, row_of, put_row}
use Rattle.roster.proofs.Tables.{id_same, id_trans, id_turned, id_turned_back}
use Rattle.score_spec.specs.PairTables.{Entry, Entries, IsLast, entry_id, value_of, put_value, without}
use Rattle.score_spec.specs.TextMaps.{entries_of}

-- how a text compares to keys
abbrev pub by_text : List ℕ → String Global → Ordering
by_text id key = slice_cmp nat_cmp id (string_bytes key)

turned : (a b : List ℕ) → id_cmp a b ≡ ordering_reverse (id_cmp b a)
turned a b = nat_list_cmp_total.antisymm a b

same_test : (a b : List ℕ) → is_eq (id_cmp a b) ≡ is_eq (id_cmp b a)
same_test a b = ap is_eq (turned a b) ∙ on (id_cmp b a)
  where
    on : (o : Ordering) → is_eq (ordering_reverse o) ≡ is_eq o
    on Less = refl
    on Equal = refl
    on Greater = refl

module _ {V : Type 0} where
  abbrev new_entry : List ℕ → V → Entry V
  new_entry id value = record { id = id; value = value }

  -- look-ups

  pub value-entries : (id : List ℕ) (es : List (String Global × V)) → value_of (entries_of es) id ≡ lookup (is_at (by_text id)) es
  value-entries id [] = refl
  value-entries id (e ∷ es) = rw (same_test (string_bytes e.0) id) (on (is_eq (id_cmp id (string_bytes e.0))) (value-entries id es))
    where
      on : (b : Bool) → value_of (entries_of es) id ≡ lookup (is_at (by_text id)) es
          → option_map (λ entry. entry.value) (if b then Some (new_entry (string_bytes e.0) e.1) else row_of entry_id id (entries_of es)) ≡ (if b then Some e.1 else lookup (is_at (by_text id)) es)
      on true rest = refl
      on false rest = rest

  -- keys ascend

  ascend-above : (a : String Global) (es : List (String Global × V)) → IsStrictlySortedBy string_cmp (a ∷ keys_of es) → AllAbove entry_id (string_bytes a) (entries_of es)
  unfolding IsStrictlySortedBy
  ascend-above a [] up = tt
  ascend-above a (e ∷ es) up = (up.0.0, ascend-above a es (up.0.1, up.1.1))

  pub ascend-entries : (es : List (String Global × V)) → IsStrictlySortedBy string_cmp (keys_of es) → Ascend entry_id (entries_of es)
  unfolding IsStrictlySortedBy
  ascend-entries [] up = tt
  ascend-entries (e ∷ es) up = (ascend-above e.0 es up, ascend-entries es up.1)

  -- an insert

  pub entries-insert : (es : List (String Global × V)) (key : String Global) (value : V) → entries_of (insert_entry string_cmp es key value) ≡ put_value (string_bytes key) value (entries_of es)
  entries-insert [] key value = refl
  entries-insert (e ∷ es) key value = on (string_cmp key e.0) refl (entries-insert es key value)
    where
      old : Entry V
      old = new_entry (string_bytes e.0) e.1

      new : Entry V
      new = new_entry (string_bytes key) value

      on : (o : Ordering) → id_cmp (string_bytes key) (string_bytes e.0) ≡ o → entries_of (insert_entry string_cmp es key value) ≡ put_value (string_bytes key) value (entries_of es)
          → entries_of (match_ordering o ((key, value) ∷ e ∷ es) ((e.0, value) ∷ es) (e ∷ insert_entry string_cmp es key value)) ≡ put_row entry_id new (old ∷ entries_of es)
      on Less h rest = let back = id_turned_back (string_bytes key) (string_bytes e.0) h in rw back refl
      on Equal h rest =
          let same = id_same (string_bytes key) (string_bytes e.0) h in
          let back : id_cmp (string_bytes e.0) (string_bytes key) ≡ Equal = turned (string_bytes e.0) (string_bytes key) ∙ ap ordering_reverse h in
          rw back (ap (λ id. new_entry id value ∷ entries_of es) (sym same))
      on Greater h rest = let back = id_turned (string_bytes key) (string_bytes e.0) h in rw back (ap (λ rows. old ∷ rows) rest)

  none-above : (id a : List ℕ) (es : List (String Global × V)) → AllAbove entry_id a (entries_of es) → id_cmp id a ≡ Less → lookup (is_at (by_text id)) es ≡ None
  none-above id a [] above less = refl
  none-above id a (e ∷ es) above less = let first = id_trans id a (string_bytes e.0) less above.0 in rw first (none-above id a es above.1 less)

  -- a value written where the key is

  pub entries-set : (id : List ℕ) (value : V) (es : List (String Global × V)) → Ascend entry_id (entries_of es) → IsSome (lookup (is_at (by_text id)) es)
      → entries_of (set_value (is_at (by_text id)) es value) ≡ put_value id value (entries_of es)
  entries-set id value [] up some = absurd (true≢false (sym some))
  entries-set id value (e ∷ es) up some = on (id_cmp id (string_bytes e.0)) refl some (entries-set id value es up.1)
    where
      old : Entry V
      old = new_entry (string_bytes e.0) e.1

      on : (o : Ordering) → id_cmp id (string_bytes e.0) ≡ o → IsSome (if is_eq o then Some e.1 else lookup (is_at (by_text id)) es)
          → (IsSome (lookup (is_at (by_text id)) es) → entries_of (set_value (is_at (by_text id)) es value) ≡ put_value id value (entries_of es))
          → entries_of (if is_eq o then (e.0, value) ∷ es else e ∷ set_value (is_at (by_text id)) es value) ≡ put_row entry_id (new_entry id value) (old ∷ entries_of es)
      on Less h found rest = absurd (true≢false (sym found ∙ ap is_some (none-above id (string_bytes e.0) es up.0 h)))
      on Equal h found rest =
          let same = id_same id (string_bytes e.0) h in
          let back : id_cmp (string_bytes e.0) id ≡ Equal = turned (string_bytes e.0) id ∙ ap ordering_reverse h in
          rw back (ap (λ x. new_entry x value ∷ entries_of es) (sym same))
      on Greater h found rest = let back = id_turned id (string_bytes e.0) h in rw back (ap (λ rows. old ∷ rows) (rest found))

  -- a value written through a lent place
  pub entries-lent : (place : Option (MutBor V)) (id : List ℕ) (value : V) (old now : List (String Global × V)) → option_copied_mut place ≡ lookup (is_at (by_text id)) old → IsStrictlySortedBy string_cmp (keys_of old)
      → now ≡ set_value (is_at (by_text id)) old value → OnSome place (entries_of now ≡ put_value id value (entries_of old))
  entries-lent None id value old now found up set = tt
  entries-lent (Some slot) id value old now found up set = ap entries_of set ∙ entries-set id value old (ascend-entries old up) (ap is_some (sym found))

  -- an id taken out
  pub entries-remove : (id : List ℕ) (es : List (String Global × V)) → entries_of (remove_entry (is_at (by_text id)) es) ≡ without id (entries_of es)
  entries-remove id [] = refl
  entries-remove id (e ∷ es) = rw (same_test (string_bytes e.0) id) (on (is_eq (id_cmp id (string_bytes e.0))) (entries-remove id es))
    where
      old : Entry V
      old = new_entry (string_bytes e.0) e.1

      on : (b : Bool) → entries_of (remove_entry (is_at (by_text id)) es) ≡ without id (entries_of es)
          → entries_of (if b then es else e ∷ remove_entry (is_at (by_text id)) es) ≡ (if b then entries_of es else old ∷ without id (entries_of es))
      on true rest = refl
      on false rest = ap (λ rows. old ∷ rows) rest

  -- the entries that pass
  pub entries-filter : (test : List ℕ → Bool) (es : List (String Global × V)) → entries_of (filter (λ e. test (string_bytes e.0)) es) ≡ filter (λ entry. test entry.id) (entries_of es)
  entries-filter test [] = refl
  entries-filter test (e ∷ es) = on (test (string_bytes e.0)) (entries-filter test es)
    where
      old : Entry V
      old = new_entry (string_bytes e.0) e.1

      on : (b : Bool) → entries_of (filter (λ e. test (string_bytes e.0)) es) ≡ filter (λ entry. test entry.id) (entries_of es)
          → entries_of (if b then e ∷ filter (λ e. test (string_bytes e.0)) es else filter (λ e. test (string_bytes e.0)) es) ≡ (if b then old ∷ filter (λ entry. test entry.id) (entries_of es) else filter (λ entry. test entry.id) (entries_of es))
      on true rest = ap (λ rows. old ∷ rows) rest
      on false rest = rest

  -- the last entry

  -- the last key of a map is the last id
  pub last-key : (es : List (String Global × V)) (key : String Global) → slice_get (keys_of es) (length es - 1) ≡ Some key → IsLast (string_bytes key) (entries_of es)
  last-key es key found =
      let long : length (entries_of es) ≡ length es = length-map es _ in
      rw long (ap (option_map entry_id) (slice_get-map _ es (length es - 1)) ∙ as_key (slice_get es (length es - 1)) ∙ ap (option_map string_bytes) (sym (slice_get-map (λ e. e.0) es (length es - 1)) ∙ found))
    where
      as_key : (o : Option (String Global × V)) → option_map entry_id (option_map (λ e. record { id = string_bytes e.0; value = e.1 }) o) ≡ option_map string_bytes (option_map (λ e. e.0) o)
      as_key None = refl
      as_key (Some e) = refl

  -- there is one last id
  pub one-last : (a b : List ℕ) (entries : Entries V) → IsLast a entries → IsLast b entries → a ≡ b
  one-last a b entries is also = let both : Some a ≡ Some b = sym is ∙ also in cc

  -- a text that is compared to the last key is the last id or not
  pub last-tested : (id : List ℕ) (es : List (String Global × V)) (key : String Global) (value : V) (test : Bool) → slice_get es (length es - 1) ≡ Some (key, value) → (IsTrue test → string_bytes key ≡ id) × (string_bytes key ≡ id → IsTrue test)
      → (IsTrue test → IsLast id (entries_of es)) × (IsLast id (entries_of es) → IsTrue test)
  last-tested id es key value test found tests =
      let last = last-key es key (slice_get-map (λ e. e.0) es (length es - 1) ∙ ap (option_map (λ e. e.0)) found) in
      (λ yes. let same = tests.0 yes in rw (← same) last, λ is. tests.1 (one-last (string_bytes key) id (entries_of es) last is))

  -- a write at the last key is a put at the last id
  pub last-written : (last : List ℕ) (es now : List (String Global × V)) (key : String Global) (value : V) → slice_get (keys_of es) (length es - 1) ≡ Some key → now ≡ insert_entry string_cmp es key value
      → IsLast last (entries_of es) → entries_of now ≡ put_value last value (entries_of es)
  last-written last es now key value found written is =
      let same = one-last (string_bytes key) last (entries_of es) (last-key es key found) is in
      ap entries_of written ∙ entries-insert es key value ∙ ap (λ id. put_value id value (entries_of es)) same

  -- the value at the last key is that of the last id
  pub last-value : (last : List ℕ) (es : List (String Global × V)) (key : String Global) (value : V) → slice_get (keys_of es) (length es - 1) ≡ Some key → Some value ≡ lookup (is_at (string_cmp key)) es
      → IsLast last (entries_of es) → value_of (entries_of es) last ≡ Some value
  last-value last es key value found stands is =
      let same = one-last (string_bytes key) last (entries_of es) (last-key es key found) is in
      ap (value_of (entries_of es)) (sym same) ∙ value-entries (string_bytes key) es ∙ sym stands
