-- The scores of the pairs of one paper, whose rows in the tables of the sources are at hand.
use Rattle.std.specs.Prelude.{◌≡◌, ℕ, ◌≤◌, ℤ, pos, ◌+ℤ◌, ◌*ℤ◌, List, [], ◌∷◌, length, Option, None, unwrap_or}
use Rattle.std.specs.Option.{option_and_then}
use Rattle.score_spec.specs.declared.paper_scores.SourceRows.{SourceRows}
use Rattle.score_spec.specs.declared.paper_scores.SourceRows.TheVariants.{Values, Bids, Missing}
use Rattle.score_spec.specs.declared.paper_scores.PaperSource.{PaperSource}
use Rattle.score_spec.specs.declared.spec.BidWord.{BidWord}
use Rattle.score_spec.specs.declared.spec.Kind.{Kind}
use Rattle.score_spec.specs.declared.spec.Spec.{Spec}
use Rattle.score_spec.specs.PairTables.{value_of}
use Rattle.score_spec.specs.Scores.{ScoresValue, given_value, source_value, value_of_word, weighted_sum}
use Rattle.score_spec.specs.Sources.{SourceValue}

-- the scores of a paper, by a spec
pub record PaperScoresValue : Type 0 where
  pub spec : Spec
  pub scores : ScoresValue
  pub paper : List ℕ

-- the value that a reviewer has by the rows of a paper
abbrev pub value_by : List BidWord → SourceRows → List ℕ → Option ℤ
value_by words (Values values) reviewer = value_of values.now reviewer
value_by words (Bids bids) reviewer = option_and_then (value_of_word words) (value_of bids.now reviewer)
value_by words Missing reviewer = None

-- by these rows each reviewer has the value of its pair with the paper
abbrev pub AreRowsOf : SourceRows → ScoresValue → List ℕ → List ℕ → Kind → Type 0
AreRowsOf rows scores paper name kind = (words : List BidWord) (reviewer : List ℕ) → value_by words rows reviewer ≡ given_value words scores paper reviewer name kind

-- a source's value times its weight
abbrev pub part_by : List BidWord → PaperSource → List ℕ → ℤ
part_by words part reviewer = part.source.now.weight *ℤ unwrap_or (value_by words part.rows reviewer) part.source.now.default

-- the part of the source in the score of each pair of the paper
abbrev pub IsPartOf : PaperSource → ScoresValue → List ℕ → SourceValue → Type 0
IsPartOf part scores paper source =
    (words : List BidWord) (reviewer : List ℕ) → part_by words part reviewer ≡ source.weight *ℤ source_value words scores paper reviewer source

-- summed over all sources
abbrev pub sum_by : List BidWord → List PaperSource → List ℕ → ℤ
sum_by words [] reviewer = pos 0
sum_by words (part ∷ parts) reviewer = part_by words part reviewer +ℤ sum_by words parts reviewer

-- at most eight sources, whose sum is the weighted sum for each reviewer
pub record AreSourcesOf (parts : List PaperSource) (spec : Spec) (scores : ScoresValue) (paper : List ℕ) : Type 0 where
  pub few : length parts ≤ 8
  pub sum : (reviewer : List ℕ) → sum_by spec.words parts reviewer ≡ weighted_sum spec.words scores paper reviewer spec.sources
