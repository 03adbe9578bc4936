-- Worked examples: tables and specs that can be followed by hand.
use Rattle.std.specs.Prelude.{ℕ, List, [], ◌∷◌, ℤ, pos, neg_ℤ, codes}
use Rattle.score_spec.specs.declared.spec.BidWord.{BidWord}
use Rattle.score_spec.specs.declared.spec.Kind.TheVariants.{Values, Bids}
use Rattle.score_spec.specs.declared.spec.Spec.{Spec}
use Rattle.score_spec.specs.PairTables.{PairsValue, put_pair, put_value}
use Rattle.score_spec.specs.Scores.{ScoresValue}
use Rattle.score_spec.specs.Sources.{SourceValue}

abbrev pub source_of_values : List ℕ → ℤ → ℤ → SourceValue
source_of_values name weight default = record { name = name; kind = Values; weight = weight; default = default }

abbrev pub source_of_bids : List ℕ → ℤ → ℤ → SourceValue
source_of_bids name weight default = record { name = name; kind = Bids; weight = weight; default = default }

-- 'High' is 1 and 'No' is -1
abbrev pub two_words : List BidWord
two_words = record { word = codes "High"; value = pos 10000 } ∷ (record { word = codes "No"; value = neg_ℤ (pos 10000) } ∷ [])

abbrev pub spec_of : List SourceValue → Spec
spec_of sources = record { sources = sources; words = two_words }

-- affinities of paper p1 for three reviewers and one of paper p0
abbrev pub affinities : PairsValue ℤ
affinities = put_pair (codes "p1") (codes "r2") (pos 8000) (put_pair (codes "p0") (codes "r1") (pos 5647) (put_pair (codes "p1") (codes "r3") (pos 5000) (put_pair (codes "p1") (codes "r1") (pos 10000) [])))

-- a bid without value, and two with one
abbrev pub bids : PairsValue (List ℕ)
bids = put_pair (codes "p1") (codes "r1") (codes "Maybe") (put_pair (codes "p1") (codes "r2") (codes "High") (put_pair (codes "p0") (codes "r1") (codes "No") []))

abbrev pub small_scores : ScoresValue
small_scores = record { values = put_value (codes "affinity") affinities []; bids = bids }

-- affinities alone
abbrev pub by_affinity : Spec
by_affinity = spec_of (source_of_values (codes "affinity") (pos 100) (pos 0) ∷ [])

-- bids alone, a fourth where no value is given
abbrev pub by_bids : Spec
by_bids = spec_of (source_of_bids (codes "bids") (pos 100) (pos 2500) ∷ [])

-- seven tenths affinity and three tenths bids
abbrev pub by_both : Spec
by_both = spec_of (source_of_values (codes "affinity") (pos 70) (pos 0) ∷ (source_of_bids (codes "bids") (pos 30) (pos 0) ∷ []))
