-- The limits of single rows: the readers keep them, and so does each put of a row.
use Rattle.std.proofs.Common.{◌≡◌, ℕ, ◌+◌, List, [], ◌∷◌, length, Option, Some, None, Bool, inl, inr, refl}
use Rattle.std.specs.Prelude.{Result, Ok, Err, All, nat_le, ◌==◌, ℤ, pos, int_le, unwrap_or}
use Rattle.std.specs.Option.{option_map}
use Rattle.std.specs.Ordering.{is_eq}
use Rattle.std.specs.declared.cmp.Ordering.{Ordering}
use Rattle.std.specs.declared.cmp.Ordering.TheVariants.{Less, Equal, Greater}
use Rattle.std.proofs.lemmas.Bool.{cases_Bool, leb-true}
use Rattle.std.proofs.lemmas.Float.{T_from_true}
use Rattle.std.specs.Int.Signed.{le_z_yes}
use Rattle.std.proofs.lemmas.List.Elements.{All-nil, All-cons, All-head, All-tail}
use Rattle.roster.specs.Table.{id_cmp, by_order, row_of, put_row}
use Rattle.roster.specs.declared.rows.PaperRow.{PaperRow}
use Rattle.score_spec.specs.PairTables.{Entry, Entries, PairsValue, entry_id, put_value, reviewers_of, put_pair}
use Rattle.bid_import.specs.declared.fault.Code.{Code}
use Rattle.bid_import.specs.declared.rows.CapRow.{CapRow}
use Rattle.bid_import.specs.Fields.{id_of, count_of, demand_from, demand_of, names_in, institutions_of, value_of as value_text, cap_from, paper_of, cap_row_of, from_three, three_of}
use Rattle.bid_import.specs.Files.{rows_of_file, first_row_of}
use Rattle.bid_import.specs.Kinds.{paper_row, paper_columns, cap_row, cap_columns}
use Rattle.bid_import.specs.Results.{◌>>=◌}
use Rattle.table_edits.specs.Bodies.{papers_after, caps_after}
use Rattle.table_edits.specs.Puts.{put_all, paper_has_room, put_paper, cap_has_room, put_cap_row}
use Rattle.venue_rules.specs.Venues.{paper_key, IsDemand, IsCap}
use Rattle.table_edits.proofs.Rows.{rows_are}

-- a put keeps what each of the rows has

by_order_keeps : {A : Type 0} (P : A → Type 0) (o : Ordering) (a b c : A) → P a → P b → P c → P (by_order o a b c)
by_order_keeps P Less a b c x y z = x
by_order_keeps P Equal a b c x y z = y
by_order_keeps P Greater a b c x y z = z

pub put_row_keeps : {R : Type 0} (P : R → Type 0) (key : R → List ℕ) (new : R) (rows : List R) → P new → All P rows → All P (put_row key new rows)
put_row_keeps P key new [] p all = All-cons P new [] p all
put_row_keeps P key new (row ∷ rows) p all =
    let first = All-head P row rows all in
    let others = All-tail P row rows all in
    by_order_keeps (All P) (id_cmp (key row) (key new)) (row ∷ put_row key new rows) (new ∷ rows) (new ∷ row ∷ rows)
    (All-cons P row (put_row key new rows) first (put_row_keeps P key new rows p others))
    (All-cons P new rows p others)
    (All-cons P new (row ∷ rows) p all)

IfThere : {A : Type 0} → (A → Type 0) → Option A → Type 0
IfThere P None = Unit {0}
IfThere P (Some x) = P x

row_of_keeps : {R : Type 0} (P : R → Type 0) (key : R → List ℕ) (id : List ℕ) (rows : List R) → All P rows → IfThere P (row_of key id rows)
unfolding IfThere
row_of_keeps P key id [] all = tt
row_of_keeps P key id (row ∷ rows) all =
    elim (cases_Bool (is_eq (id_cmp (key row) id))) [
      | inl e ↦ rw e (All-head P row rows all)
      | inr e ↦ rw e (row_of_keeps P key id rows (All-tail P row rows all))
    ]

entries_keep : {V : Type 0} (P : V → Type 0) (found : Option (Entry (Entries V))) → IfThere (λ paper. All (λ (entry : Entry V). P entry.value) paper.value) found → All (λ (entry : Entry V). P entry.value) (unwrap_or (option_map (λ (entry : Entry (Entries V)). entry.value) found) [])
unfolding IfThere
entries_keep {V} P None there = All-nil (λ (entry : Entry V). P entry.value)
entries_keep P (Some paper) there = there

pub put_pair_keeps : {V : Type 0} (P : V → Type 0) (paper reviewer : List ℕ) (value : V) (table : PairsValue V) → P value → All (λ paper. All (λ entry. P entry.value) paper.value) table → All (λ paper. All (λ entry. P entry.value) paper.value) (put_pair paper reviewer value table)
put_pair_keeps {V} P paper reviewer value table p all =
    let Values : Entries V → Type 0 = λ entries. All (λ (entry : Entry V). P entry.value) entries in
    let known = entries_keep P (row_of entry_id paper table) (row_of_keeps (λ (entry : Entry (Entries V)). Values entry.value) entry_id paper table all) in
    let reviewers = put_row_keeps (λ (entry : Entry V). P entry.value) entry_id (record { id = reviewer; value = value }) (reviewers_of table paper) p known in
    put_row_keeps (λ (entry : Entry (Entries V)). Values entry.value) entry_id (record { id = paper; value = put_value reviewer value (reviewers_of table paper) }) table reviewers all

pub put_all_keeps : {T R : Type 0} (P : R → Type 0) (Q : T → Type 0) (has_room : R → T → Bool) (put : R → T → T) → ((row : R) (table : T) → P row → Q table → Q (put row table)) → (number : ℕ) (table : T) (rows : List R) (new : T) → Q table → All P rows → put_all has_room put number table rows ≡ Ok new → Q new
put_all_keeps P Q has_room put keeps number table [] new q all h = let e : new ≡ table = cc in rw e q
put_all_keeps P Q has_room put keeps number table (row ∷ rows) new q all h =
    elim (cases_Bool (has_room row table)) [
      | inl e ↦ put_all_keeps P Q has_room put keeps (number + 1) (put row table) rows new (keeps row table (All-head P row rows all) q) (All-tail P row rows all) (rw e at h)
      | inr e ↦ let full = rw e at h in absurd (cc)
    ]

-- what was made, of what was made before

then_made : {A B E : Type 0} (made : Result A E) (more : A → Result B E) (b : B) → made >>= more ≡ Ok b → (a : A) × (made ≡ Ok a) × (more a ≡ Ok b)
then_made (Ok a) more b h = (a, refl, h)
then_made (Err fault) more b h = absurd (cc)

-- the demand of a paper is at most 100

demand_from_fits : (count : Option ℕ) (demand : Option ℕ) → demand_from count ≡ Ok demand → IsDemand demand
demand_from_fits None demand h = absurd (cc)
demand_from_fits (Some n) demand h =
    elim (cases_Bool (nat_le n 100)) [
      | inl e ↦ let read = rw e at h in let same : demand ≡ Some n = cc in rw same (leb-true n 100 e)
      | inr e ↦ let wrong = rw e at h in absurd (cc)
    ]

demand_fits : (text : List ℕ) (demand : Option ℕ) → demand_of text ≡ Ok demand → IsDemand demand
demand_fits text demand h =
    elim (cases_Bool (length text == 0)) [
      | inl e ↦ let none = rw e at h in let same : demand ≡ None = cc in rw same tt
      | inr e ↦ demand_from_fits (count_of text) demand (rw e at h)
    ]

paper_fits : (a b c : List ℕ) (row : PaperRow) → paper_of a b c ≡ Ok row → IsDemand row.demand
paper_fits a b c row h =
    let id = then_made (id_of a) _ row h in
    let demand = then_made (demand_of b) _ row id.2 in
    let names = then_made (institutions_of (names_in c)) _ row demand.2 in
    let same : row.demand ≡ demand.0 = cc names.2 in
    rw same (demand_fits b demand.0 demand.1)

from_three_keeps : {A : Type 0} (P : A → Type 0) (read : List ℕ → List ℕ → List ℕ → Result A Code) → ((a b c : List ℕ) (row : A) → read a b c ≡ Ok row → P row) → (fields : Option (List ℕ × List ℕ × List ℕ)) (row : A) → from_three read fields ≡ Ok row → P row
from_three_keeps P read keeps None row h = absurd (cc)
from_three_keeps P read keeps (Some t) row h = keeps t.0 t.1 t.2 row h

paper_row_fits : (fields : List (List ℕ)) (row : PaperRow) → paper_row fields ≡ Ok row → IsDemand row.demand
paper_row_fits fields row h = from_three_keeps (λ (row : PaperRow). IsDemand row.demand) paper_of paper_fits (three_of fields) row h

-- the cap of a pair is from 0 to 10,000

cap_from_fits : (value cap : ℤ) → cap_from value ≡ Ok cap → IsCap cap
cap_from_fits value cap h =
    elim (cases_Bool (int_le (pos 0) value)) [
      | inl low ↦ elim (cases_Bool (int_le value (pos 10000))) [
        | inl high ↦ let read = rw (low, high) at h in let same : cap ≡ value = cc in rw same (le_z_yes (T_from_true (int_le (pos 0) value) low), le_z_yes (T_from_true (int_le value (pos 10000)) high))
        | inr high ↦ let wrong = rw (low, high) at h in absurd (cc)
      ]
      | inr low ↦ let wrong = rw low at h in absurd (cc)
    ]

cap_fits : (a b c : List ℕ) (row : CapRow) → cap_row_of a b c ≡ Ok row → IsCap row.cap
cap_fits a b c row h =
    let paper = then_made (id_of a) _ row h in
    let reviewer = then_made (id_of b) _ row paper.2 in
    let cap = then_made (value_text c >>= cap_from) _ row reviewer.2 in
    let value = then_made (value_text c) cap_from cap.0 cap.1 in
    let same : row.cap ≡ cap.0 = cc cap.2 in
    rw same (cap_from_fits value.0 cap.0 value.2)

cap_row_fits : (fields : List (List ℕ)) (row : CapRow) → cap_row fields ≡ Ok row → IsCap row.cap
cap_row_fits fields row h = from_three_keeps (λ (row : CapRow). IsCap row.cap) cap_row_of cap_fits (three_of fields) row h

-- so do the tables that edits make

abbrev pub HasDemands : List PaperRow → Type 0
HasDemands papers = All (λ (paper : PaperRow). IsDemand paper.demand) papers

abbrev pub HasCaps : PairsValue ℤ → Type 0
HasCaps caps = All (λ paper. All (λ entry. IsCap entry.value) paper.value) caps

pub papers_after_keep : (table : List PaperRow) (body : List ℕ) (new : List PaperRow) → HasDemands table → papers_after table body ≡ Ok new → HasDemands new
papers_after_keep table body new kept h =
    let read = then_made (rows_of_file paper_row paper_columns 1500 body) _ new h in
    let are = rows_are (λ (row : PaperRow). IsDemand row.demand) paper_row paper_row_fits paper_columns 1500 body read.0 read.1 in
    put_all_keeps (λ (row : PaperRow). IsDemand row.demand) HasDemands paper_has_room put_paper (λ row table p all. put_row_keeps (λ (row : PaperRow). IsDemand row.demand) paper_key row table p all) (first_row_of paper_columns body) table read.0 new kept are.kept read.2

pub caps_after_keep : (table : PairsValue ℤ) (body : List ℕ) (new : PairsValue ℤ) → HasCaps table → caps_after table body ≡ Ok new → HasCaps new
caps_after_keep table body new kept h =
    let read = then_made (rows_of_file cap_row cap_columns 250000 body) _ new h in
    let are = rows_are (λ (row : CapRow). IsCap row.cap) cap_row cap_row_fits cap_columns 250000 body read.0 read.1 in
    put_all_keeps (λ (row : CapRow). IsCap row.cap) HasCaps cap_has_room put_cap_row (λ row table p all. put_pair_keeps IsCap row.paper row.reviewer row.cap table p all) (first_row_of cap_columns body) table read.0 new kept are.kept read.2
