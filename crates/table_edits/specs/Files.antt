-- The files of the tables in a folder.
use Rattle.std.specs.Prelude.{ℕ, Bool, true, false, List, [], ◌∷◌, ◌++◌, map, filter, codes}
use Rattle.score_spec.specs.Scores.{is_values}
use Rattle.score_spec.specs.Sources.{SourceValue}
use Rattle.table_edits.specs.declared.edit.TableName.{TableName}
use Rattle.table_edits.specs.declared.edit.TableName.TheVariants.{Settings, Papers, Reviewers, Values, Bids, Marks, Caps}

-- the file of a table
abbrev pub file_of : TableName → List ℕ
file_of Settings = codes "settings.toml"
file_of Papers = codes "papers.csv"
file_of Reviewers = codes "reviewers.csv"
file_of (Values source) = codes "values-" ++ (source ++ codes ".csv")
file_of Bids = codes "bids.csv"
file_of Marks = codes "marks.csv"
file_of Caps = codes "caps.csv"

-- papers and reviewers have to be there; any other file that isn't is empty
abbrev pub has_to_be_there : TableName → Bool
has_to_be_there Settings = false
has_to_be_there Papers = true
has_to_be_there Reviewers = true
has_to_be_there (Values source) = false
has_to_be_there Bids = false
has_to_be_there Marks = false
has_to_be_there Caps = false

abbrev pub values_table : SourceValue → TableName
values_table source = Values source.name

-- the tables beside the settings, which have these sources, in the order in which they are read
abbrev pub tables_of : List SourceValue → List TableName
tables_of sources = Papers ∷ Reviewers ∷ (map values_table (filter (λ source. is_values source.kind) sources) ++ (Bids ∷ Marks ∷ Caps ∷ []))
