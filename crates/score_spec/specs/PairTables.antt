-- Tables of pairs: for each paper, in ascending order, its reviewers in ascending order, each with a value.
use Rattle.std.specs.Prelude.{true, is_some, None, Some, Bool, ◌⊎◌, ◌≢◌, ◌≡◌, ℕ, ◌+◌, ◌-◌, ◌≤◌, List, [], length, ◌∷◌, Option, slice_get, unwrap_or, if◌then◌else◌}
use Rattle.std.specs.Option.{option_map}
use Rattle.std.specs.Ordering.{is_eq}
use Rattle.match_rules.specs.Id.{is_id}
use Rattle.roster.specs.Table.{Ascend, id_cmp, row_of, put_row}
use Rattle.score_spec.specs.declared.pairs.TheConstants.{MOST_PAIR_ROWS}

-- an id with what stands for it
pub record Entry (V : Type 0) : Type 0 where
  pub id : List ℕ
  pub value : V

abbrev pub Entries : Type 0 → Type 0
Entries V = List (Entry V)

abbrev pub entry_id : {V : Type 0} → Entry V → List ℕ
entry_id entry = entry.id

-- what stands for an id
abbrev pub value_of : {V : Type 0} → Entries V → List ℕ → Option V
value_of entries id = option_map (λ entry. entry.value) (row_of entry_id id entries)

-- the value stands for the id, and all else stays
abbrev pub put_value : {V : Type 0} → List ℕ → V → Entries V → Entries V
put_value id value entries = put_row entry_id (record { id = id; value = value }) entries

-- nothing stands for the id, and all else stays
abbrev pub without : {V : Type 0} → List ℕ → Entries V → Entries V
without id [] = []
without id (entry ∷ entries) = if is_eq (id_cmp entry.id id) then entries else entry ∷ without id entries

-- the id is that of the last entry
abbrev pub IsLast : {V : Type 0} → List ℕ → Entries V → Type 0
IsLast id entries = option_map entry_id (slice_get entries (length entries - 1)) ≡ Some id

-- papers with their reviewers
abbrev pub PairsValue : Type 0 → Type 0
PairsValue V = Entries (Entries V)

-- the reviewers of a paper, with their values
abbrev pub reviewers_of : {V : Type 0} → PairsValue V → List ℕ → Entries V
reviewers_of table paper = unwrap_or (value_of table paper) []

-- the value of a paper and a reviewer
abbrev pub value_of_pair : {V : Type 0} → PairsValue V → List ℕ → List ℕ → Option V
value_of_pair table paper reviewer = value_of (reviewers_of table paper) reviewer

-- the paper and the reviewer have a value
abbrev pub has_pair : {V : Type 0} → PairsValue V → List ℕ → List ℕ → Bool
has_pair table paper reviewer = is_some (value_of_pair table paper reviewer)

-- each other pair has the value that it had
abbrev pub OthersStay : {V : Type 0} → PairsValue V → PairsValue V → List ℕ → List ℕ → Type 0
OthersStay old now paper reviewer = (p r : List ℕ) → (p ≢ paper) ⊎ (r ≢ reviewer) → value_of_pair now p r ≡ value_of_pair old p r

-- the value stands for the paper and the reviewer, and all else stays
abbrev pub put_pair : {V : Type 0} → List ℕ → List ℕ → V → PairsValue V → PairsValue V
put_pair paper reviewer value table = put_value paper (put_value reviewer value (reviewers_of table paper)) table

-- how many pairs have a value
abbrev pub pair_count : {V : Type 0} → PairsValue V → ℕ
pair_count [] = 0
pair_count (paper ∷ table) = length paper.value + pair_count table

-- the pair has no value, and as many pairs have one as may
abbrev pub HasNoRoom : {V : Type 0} → PairsValue V → List ℕ → List ℕ → Type 0
HasNoRoom table paper reviewer = (value_of_pair table paper reviewer ≡ None) × (pair_count table ≡ MOST_PAIR_ROWS)

-- each is spelled as an id
abbrev pub AreIds : {V : Type 0} → Entries V → Type 0
AreIds [] = Unit {0}
AreIds (entry ∷ entries) = (is_id entry.id ≡ true) × AreIds entries

-- the reviewers of a paper ascend, and there is one
pub record AreReviewers {V : Type 0} (reviewers : Entries V) : Type 0 where
  pub ids : AreIds reviewers
  pub ascend : Ascend entry_id reviewers
  pub some : 1 ≤ length reviewers

-- so for each paper
abbrev pub HaveReviewers : {V : Type 0} → PairsValue V → Type 0
HaveReviewers [] = Unit {0}
HaveReviewers (paper ∷ table) = AreReviewers paper.value × HaveReviewers table

-- papers ascend, and the reviewers of each
pub record ArePairs {V : Type 0} (table : PairsValue V) : Type 0 where
  pub ids : AreIds table
  pub papers : Ascend entry_id table
  pub reviewers : HaveReviewers table

-- a table of pairs, no more than there may be, with their count
pub record IsPairTable {V : Type 0} (table : PairsValue V) (count : ℕ) : Type 0 where
  pub pairs : ArePairs table
  pub exact : count ≡ pair_count table
  pub few : count ≤ MOST_PAIR_ROWS
