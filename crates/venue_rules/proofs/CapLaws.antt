-- What holds of each value of a table holds of the one that a look-up finds.
use Rattle.std.proofs.Common.{◌≡◌, ℕ, Bool, true, false, List, [], ◌∷◌, Option, Some, None, refl, subst}
use Rattle.std.specs.Prelude.{if◌then◌else◌, unwrap_or}
use Rattle.std.specs.List.{All}
use Rattle.std.specs.Option.{option_map}
use Rattle.std.specs.Ordering.{is_eq}
use Rattle.std.proofs.lemmas.List.Elements.{All-head, All-tail}
use Rattle.roster.specs.Table.{id_cmp, row_of}
use Rattle.score_spec.specs.PairTables.{Entry, Entries, PairsValue, entry_id, value_of, value_of_pair}

pub value-held : {V : Type 0} (P : V → Type 0) (entries : Entries V) (id : List ℕ) (v : V) → All (λ (entry : Entry V). P entry.value) entries → value_of entries id ≡ Some v → P v
value-held P [] id v all found = absurd cc
value-held {V} P (e ∷ es) id v all found = on (is_eq (id_cmp e.id id)) (row_of entry_id id es) (λ h. value-held P es id v (All-tail (λ (entry : Entry V). P entry.value) e es all) h) found
  where
    on : (b : Bool) (rest : Option (Entry V)) → (option_map (λ entry. entry.value) rest ≡ Some v → P v) → option_map (λ entry. entry.value) (if b then Some e else rest) ≡ Some v → P v
    on true rest later found =
        let here : e.value ≡ v = cc in
        subst P here (All-head (λ (entry : Entry V). P entry.value) e es all)
    on false rest later found = later found

pub pair-held : {V : Type 0} (P : V → Type 0) (table : PairsValue V) (paper reviewer : List ℕ) (v : V) → All (λ (row : Entry (Entries V)). All (λ (entry : Entry V). P entry.value) row.value) table → value_of_pair table paper reviewer ≡ Some v → P v
pair-held {V} P table paper reviewer v all found = on (value_of table paper) refl found
  where
    on : (row : Option (Entries V)) → value_of table paper ≡ row → value_of (unwrap_or row []) reviewer ≡ Some v → P v
    on None e found = absurd cc
    on (Some entries) e found = value-held P entries reviewer v (value-held (λ (es : Entries V). All (λ (entry : Entry V). P entry.value) es) table paper entries all e) found
