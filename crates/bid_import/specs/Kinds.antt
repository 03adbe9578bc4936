-- The kinds of files of records.
use Rattle.std.specs.Prelude.{ℕ, List, [], ◌∷◌, Result, codes}
use Rattle.roster.specs.declared.table.TheConstants.{MOST_ROWS}
use Rattle.score_spec.specs.declared.pairs.TheConstants.{MOST_PAIR_ROWS}
use Rattle.score_spec.specs.declared.spec.BidWord.{BidWord}
use Rattle.roster.specs.declared.rows.PaperRow.{PaperRow}
use Rattle.roster.specs.declared.rows.ReviewerRow.{ReviewerRow}
use Rattle.bid_import.specs.declared.fault.Code.{Code}
use Rattle.bid_import.specs.declared.file_kind.FileKind.{FileKind}
use Rattle.bid_import.specs.declared.file_kind.FileKind.TheVariants.{Papers, Reviewers, Values, Bids, Marks, Caps}
use Rattle.bid_import.specs.declared.rows.ValueRow.{ValueRow}
use Rattle.bid_import.specs.declared.rows.BidRow.{BidRow}
use Rattle.bid_import.specs.declared.rows.MarkRow.{MarkRow}
use Rattle.bid_import.specs.declared.rows.CapRow.{CapRow}
use Rattle.bid_import.specs.Fields.{three_of, four_of, from_three, from_four, paper_of, reviewer_of, value_row_of, bid_row_of, mark_row_of, cap_row_of}

abbrev pub paper_columns : List (List ℕ)
paper_columns = codes "paper" ∷ codes "demand" ∷ codes "institutions" ∷ []

abbrev pub reviewer_columns : List (List ℕ)
reviewer_columns = codes "reviewer" ∷ codes "institution" ∷ codes "least" ∷ codes "greatest" ∷ []

abbrev pub value_columns : List (List ℕ)
value_columns = codes "paper" ∷ codes "reviewer" ∷ codes "value" ∷ []

abbrev pub bid_columns : List (List ℕ)
bid_columns = codes "paper" ∷ codes "reviewer" ∷ codes "bid" ∷ []

abbrev pub mark_columns : List (List ℕ)
mark_columns = codes "paper" ∷ codes "reviewer" ∷ codes "mark" ∷ []

abbrev pub cap_columns : List (List ℕ)
cap_columns = codes "paper" ∷ codes "reviewer" ∷ codes "cap" ∷ []

abbrev pub columns_of : FileKind → List (List ℕ)
columns_of Papers = paper_columns
columns_of Reviewers = reviewer_columns
columns_of Values = value_columns
columns_of Bids = bid_columns
columns_of Marks = mark_columns
columns_of Caps = cap_columns

-- how many records a file may have beside the names of its columns
abbrev pub most_records : FileKind → ℕ
most_records Papers = MOST_ROWS
most_records Reviewers = MOST_ROWS
most_records Values = MOST_PAIR_ROWS
most_records Bids = MOST_PAIR_ROWS
most_records Marks = MOST_PAIR_ROWS
most_records Caps = MOST_PAIR_ROWS

-- the row of a record of each kind

abbrev pub paper_row : List (List ℕ) → Result PaperRow Code
paper_row fields = from_three paper_of (three_of fields)

abbrev pub reviewer_row : List (List ℕ) → Result ReviewerRow Code
reviewer_row fields = from_four reviewer_of (four_of fields)

abbrev pub value_row : List (List ℕ) → Result ValueRow Code
value_row fields = from_three value_row_of (three_of fields)

abbrev pub bid_row : List BidWord → List (List ℕ) → Result BidRow Code
bid_row words fields = from_three (bid_row_of words) (three_of fields)

abbrev pub mark_row : List (List ℕ) → Result MarkRow Code
mark_row fields = from_three mark_row_of (three_of fields)

abbrev pub cap_row : List (List ℕ) → Result CapRow Code
cap_row fields = from_three cap_row_of (three_of fields)
