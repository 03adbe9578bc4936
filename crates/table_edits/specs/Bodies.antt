-- Tables after a body: its rows, put into the table or into an empty one.
use Rattle.std.specs.Prelude.{◌≡◌, ℕ, List, [], Result, Ok, Err, ℤ, ⊤}
use Rattle.roster.specs.declared.rows.PaperRow.{PaperRow}
use Rattle.roster.specs.declared.rows.ReviewerRow.{ReviewerRow}
use Rattle.roster.specs.declared.table.TheConstants.{MOST_ROWS}
use Rattle.score_spec.specs.declared.pairs.TheConstants.{MOST_PAIR_ROWS}
use Rattle.score_spec.specs.Scores.{ScoresValue, without_values}
use Rattle.score_spec.specs.PairTables.{PairsValue}
use Rattle.bid_import.specs.Files.{rows_of_file, first_row_of}
use Rattle.bid_import.specs.Kinds.{paper_row, paper_columns, reviewer_row, reviewer_columns, value_row, value_columns, bid_row, bid_columns, mark_row, mark_columns, cap_row, cap_columns}
use Rattle.bid_import.specs.Results.{◌>>=◌}
use Rattle.bid_import.specs.Settings.{SettingsValue}
use Rattle.bid_import.specs.declared.fault.Code.{Code}
use Rattle.bid_import.specs.declared.fault.ImportFault.{ImportFault}
use Rattle.bid_import.specs.declared.fault.ImportFault.TheVariants.{Memory, Bad}
use Rattle.table_edits.specs.declared.edit.How.{How}
use Rattle.table_edits.specs.declared.edit.How.TheVariants.{Merge, Replace}
use Rattle.table_edits.specs.Puts.{put_all, paper_has_room, put_paper, reviewer_has_room, put_reviewer, value_has_room, put_value_row, bid_has_room, put_bid_row, mark_has_room, put_mark_row, cap_has_room, put_cap_row}

-- what a body makes of something: that, or the row at fault and its code
abbrev pub Made : Type 0 → Type 0
Made A = Result A (ℕ × Code)

-- the answer has what was made, or the row at fault and its code; or memory was wanting
abbrev pub Makes : {A : Type 0} → Result A ImportFault → Made A → Type 0
Makes (Ok x) made = made ≡ Ok x
Makes (Err Memory) made = ⊤
Makes (Err (Bad row code)) made = made ≡ Err (row, code)

-- a table that is merged into, or emptied first
abbrev pub start_of : {R : Type 0} → How → List R → List R
start_of Merge table = table
start_of Replace table = []

abbrev pub papers_after : List PaperRow → List ℕ → Made (List PaperRow)
papers_after table body =
    rows_of_file paper_row paper_columns MOST_ROWS body >>= put_all paper_has_room put_paper (first_row_of paper_columns body) table

abbrev pub reviewers_after : List ReviewerRow → List ℕ → Made (List ReviewerRow)
reviewers_after table body =
    rows_of_file reviewer_row reviewer_columns MOST_ROWS body >>= put_all reviewer_has_room put_reviewer (first_row_of reviewer_columns body) table

-- the scores that are merged into, or without the table of this source
abbrev pub values_start : How → List ℕ → ScoresValue → ScoresValue
values_start Merge source scores = scores
values_start Replace source scores = without_values source scores

abbrev pub values_after : List ℕ → ScoresValue → List ℕ → Made ScoresValue
values_after source scores body =
    rows_of_file value_row value_columns MOST_PAIR_ROWS body >>= put_all (value_has_room source) (put_value_row source) (first_row_of value_columns body) scores

-- the scores without the bids
abbrev pub without_bids : ScoresValue → ScoresValue
without_bids scores = record scores { bids = [] }

abbrev pub bids_start : How → ScoresValue → ScoresValue
bids_start Merge scores = scores
bids_start Replace scores = without_bids scores

abbrev pub bids_after : SettingsValue → ScoresValue → List ℕ → Made ScoresValue
bids_after settings scores body =
    rows_of_file (bid_row settings.spec.words) bid_columns MOST_PAIR_ROWS body >>= put_all bid_has_room put_bid_row (first_row_of bid_columns body) scores

abbrev pub marks_after : PairsValue ℤ → List ℕ → Made (PairsValue ℤ)
marks_after table body =
    rows_of_file mark_row mark_columns MOST_PAIR_ROWS body >>= put_all mark_has_room put_mark_row (first_row_of mark_columns body) table

abbrev pub caps_after : PairsValue ℤ → List ℕ → Made (PairsValue ℤ)
caps_after table body =
    rows_of_file cap_row cap_columns MOST_PAIR_ROWS body >>= put_all cap_has_room put_cap_row (first_row_of cap_columns body) table
