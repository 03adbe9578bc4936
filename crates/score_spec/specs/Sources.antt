-- The sources of a score and the words of bids.
use Rattle.std.specs.Prelude.{ℕ, ℤ, pos, neg_ℤ, ◌≤ℤ◌, List}
use Rattle.score_spec.specs.declared.spec.Kind.{Kind}

-- a source: its name, its kind, its weight in hundredths and its value in ten-thousandths where a pair has none
pub record SourceValue : Type 0 where
  pub name : List ℕ
  pub kind : Kind
  pub weight : ℤ
  pub default : ℤ

-- from -10,000 to 10,000
pub record IsWeight (weight : ℤ) : Type 0 where
  pub low : neg_ℤ (pos 10000) ≤ℤ weight
  pub high : weight ≤ℤ pos 10000
