-- Rows put into a table one after the other, up to the first that finds it full.
use Rattle.std.specs.Prelude.{◌≡◌, ℕ, ◌+◌, Bool, true, false, ⊤, ◌||◌, nat_lt, is_some, if◌then◌else◌, List, [], ◌∷◌, length, Result, Ok, Err, ℤ}
use Rattle.roster.specs.Table.{row_of, put_row}
use Rattle.roster.specs.declared.table.TheConstants.{MOST_ROWS}
use Rattle.roster.specs.declared.rows.PaperRow.{PaperRow}
use Rattle.roster.specs.declared.rows.ReviewerRow.{ReviewerRow}
use Rattle.score_spec.specs.PairTables.{PairsValue, value_of_pair, put_pair, pair_count}
use Rattle.score_spec.specs.declared.pairs.TheConstants.{MOST_PAIR_ROWS}
use Rattle.score_spec.specs.Scores.{ScoresValue, table_of, with_value, with_bid}
use Rattle.bid_import.specs.declared.fault.Code.{Code}
use Rattle.bid_import.specs.declared.fault.Code.TheVariants.{TooMany}
use Rattle.bid_import.specs.declared.fault.ImportFault.{ImportFault}
use Rattle.bid_import.specs.declared.fault.ImportFault.TheVariants.{Bad}
use Rattle.bid_import.specs.declared.fault.ImportFault.TheVariants as import
use Rattle.bid_import.specs.declared.rows.ValueRow.{ValueRow}
use Rattle.bid_import.specs.declared.rows.BidRow.{BidRow}
use Rattle.bid_import.specs.declared.rows.MarkRow.{MarkRow}
use Rattle.bid_import.specs.declared.rows.CapRow.{CapRow}
use Rattle.table_edits.specs.declared.puts.PutFault.{PutFault}
use Rattle.table_edits.specs.declared.puts.PutFault.TheVariants.{Full, Memory}
use Rattle.score_spec.specs.declared.pairs.ScoresFault.{ScoresFault}
use Rattle.score_spec.specs.declared.pairs.ScoresFault.TheVariants as scores

-- the table after the rows, the first of which has this number, or the row that passes its limit
abbrev pub put_all : {T R : Type 0} → (R → T → Bool) → (R → T → T) → ℕ → T → List R → Result T (ℕ × Code)
put_all has_room put number table [] = Ok table
put_all has_room put number table (row ∷ rows) =
    if has_room row table then put_all has_room put (number + 1) (put row table) rows else Err (number, TooMany)

-- the row was put, or found no room; or memory was wanting
abbrev pub Puts : {T : Type 0} → Result (Unit {0}) PutFault → Bool → T → T → Type 0
Puts (Ok u) has_room put new = (has_room ≡ true) × (new ≡ put)
Puts (Err Full) has_room put new = has_room ≡ false
Puts (Err Memory) has_room put new = ⊤

-- the fault of a row of this number
abbrev pub at_row : ℕ → PutFault → ImportFault
at_row number Full = Bad number TooMany
at_row number Memory = import.Memory

-- a put of a pair that was refused
abbrev pub put_fault : ScoresFault → PutFault
put_fault scores.TooMany = Full
put_fault scores.Memory = Memory

-- a row of a known key has room, and a new one where fewer than 1,500 are there
abbrev pub row_has_room : {R : Type 0} → (R → List ℕ) → List ℕ → List R → Bool
row_has_room key id table = is_some (row_of key id table) || nat_lt (length table) MOST_ROWS

abbrev pub paper_has_room : PaperRow → List PaperRow → Bool
paper_has_room row table = row_has_room (λ (paper : PaperRow). paper.id) row.id table

abbrev pub put_paper : PaperRow → List PaperRow → List PaperRow
put_paper row table = put_row (λ (paper : PaperRow). paper.id) row table

abbrev pub reviewer_has_room : ReviewerRow → List ReviewerRow → Bool
reviewer_has_room row table = row_has_room (λ (reviewer : ReviewerRow). reviewer.id) row.id table

abbrev pub put_reviewer : ReviewerRow → List ReviewerRow → List ReviewerRow
put_reviewer row table = put_row (λ (reviewer : ReviewerRow). reviewer.id) row table

-- a known pair has room, and a new one where fewer than 250,000 are there
abbrev pub pair_has_room : {V : Type 0} → List ℕ → List ℕ → PairsValue V → Bool
pair_has_room paper reviewer table = is_some (value_of_pair table paper reviewer) || nat_lt (pair_count table) MOST_PAIR_ROWS

-- into the table of a source
abbrev pub value_has_room : List ℕ → ValueRow → ScoresValue → Bool
value_has_room source row scores = pair_has_room row.paper row.reviewer (table_of scores source)

abbrev pub put_value_row : List ℕ → ValueRow → ScoresValue → ScoresValue
put_value_row source row scores = with_value source row.paper row.reviewer row.value scores

abbrev pub bid_has_room : BidRow → ScoresValue → Bool
bid_has_room row scores = pair_has_room row.paper row.reviewer scores.bids

abbrev pub put_bid_row : BidRow → ScoresValue → ScoresValue
put_bid_row row scores = with_bid row.paper row.reviewer row.word scores

abbrev pub mark_has_room : MarkRow → PairsValue ℤ → Bool
mark_has_room row table = pair_has_room row.paper row.reviewer table

abbrev pub put_mark_row : MarkRow → PairsValue ℤ → PairsValue ℤ
put_mark_row row table = put_pair row.paper row.reviewer row.mark table

abbrev pub cap_has_room : CapRow → PairsValue ℤ → Bool
cap_has_room row table = pair_has_room row.paper row.reviewer table

abbrev pub put_cap_row : CapRow → PairsValue ℤ → PairsValue ℤ
put_cap_row row table = put_pair row.paper row.reviewer row.cap table
