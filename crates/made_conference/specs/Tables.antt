-- The files of a made conference.
use Rattle.std.specs.Prelude.{ℕ, ◌*◌, List, [], ◌∷◌, codes}
use Rattle.std.specs.List.{flat_map, range_with_len}
use Rattle.edge_io.specs.FileValues.{FileValue}
use Rattle.text_lines.specs.Texts.{lines_of}
use Rattle.made_conference.specs.declared.pairs.MadePair.{MadePair}
use Rattle.made_conference.specs.Pairs.{made_pairs}
use Rattle.made_conference.specs.Rows.{paper_row, reviewer_row, value_row, bid_lines}

abbrev pub settings_lines : List (List ℕ)
settings_lines = codes "limit = 2"
    ∷ codes "cap = \"0.5\""
    ∷ codes "demand = 3"
    ∷ codes "least = 0"
    ∷ codes "greatest = 6"
    ∷ codes "[[source]]"
    ∷ codes "name = \"affinity\""
    ∷ codes "kind = \"values\""
    ∷ codes "weight = 70"
    ∷ codes "[[source]]"
    ∷ codes "name = \"bid\""
    ∷ codes "kind = \"bids\""
    ∷ codes "weight = 30"
    ∷ []

unfoldable pub settings_text : List ℕ
settings_text = lines_of (λ line. line) settings_lines

-- so many papers and reviewers, from 0 on
unfoldable pub papers_text : ℕ → List ℕ
papers_text papers = lines_of paper_row (range_with_len 0 papers)

unfoldable pub reviewers_text : ℕ → List ℕ
reviewers_text reviewers = lines_of reviewer_row (range_with_len 0 reviewers)

-- a line for each pair, and for each pair that has a bid
unfoldable pub values_text : List MadePair → List ℕ
values_text pairs = lines_of value_row pairs

unfoldable pub bids_text : List MadePair → List ℕ
bids_text pairs = flat_map bid_lines pairs

-- the folder of a seed and a size: the size is the number of blocks
unfoldable pub made_files : ℕ → ℕ → List FileValue
made_files seed size = record { name = codes "settings.toml"; bytes = settings_text }
    ∷ record { name = codes "papers.csv"; bytes = papers_text (60 * size) }
    ∷ record { name = codes "reviewers.csv"; bytes = reviewers_text (45 * size) }
    ∷ record { name = codes "values-affinity.csv"; bytes = values_text (made_pairs seed size) }
    ∷ record { name = codes "bids.csv"; bytes = bids_text (made_pairs seed size) }
    ∷ []
