-- The values and bids of a conference, and the score of a pair: the weighted sum over all sources.
use Rattle.std.specs.Prelude.{◌≡◌, ◌⊎◌, ◌≢◌, ℕ, Bool, true, false, ◌&&◌, ◌||◌, ℤ, pos, ◌+ℤ◌, ◌*ℤ◌, List, [], ◌∷◌, Option, unwrap_or}
use Rattle.std.specs.Option.{option_map, option_and_then}
use Rattle.std.specs.List.{filter, list_any}
use Rattle.std.specs.Ordering.{is_eq}
use Rattle.roster.specs.Table.{id_cmp, row_of}
use Rattle.score_spec.specs.declared.spec.BidWord.{BidWord}
use Rattle.score_spec.specs.declared.spec.Kind.{Kind}
use Rattle.score_spec.specs.declared.spec.Kind.TheVariants.{Values, Bids}
use Rattle.score_spec.specs.declared.spec.Spec.{Spec}
use Rattle.score_spec.specs.PairTables.{Entries, PairsValue, value_of, put_value, without, value_of_pair, has_pair, put_pair}
use Rattle.score_spec.specs.Sources.{SourceValue}

abbrev pub is_values : Kind → Bool
is_values Values = true
is_values Bids = false

-- the tables of the sources of values, by their names, and the words that were bid
pub record ScoresValue : Type 0 where
  pub values : Entries (PairsValue ℤ)
  pub bids : PairsValue (List ℕ)

-- the table of a source among these, which is empty where there is none
abbrev pub table_in : Entries (PairsValue ℤ) → List ℕ → PairsValue ℤ
table_in tables source = unwrap_or (value_of tables source) []

-- the table of a source
abbrev pub table_of : ScoresValue → List ℕ → PairsValue ℤ
table_of scores source = table_in scores.values source

abbrev pub no_scores : ScoresValue
no_scores = record { values = []; bids = [] }

-- the value stands for the pair by the source, and all else stays
abbrev pub with_value : List ℕ → List ℕ → List ℕ → ℤ → ScoresValue → ScoresValue
with_value source paper reviewer value scores = record scores { values = put_value source (put_pair paper reviewer value (table_of scores source)) scores.values }

-- each other value of a source is as it was
abbrev pub OtherValuesStay : ScoresValue → ScoresValue → List ℕ → List ℕ → List ℕ → Type 0
OtherValuesStay old now source paper reviewer =
    (name p r : List ℕ) → (name ≢ source) ⊎ ((p ≢ paper) ⊎ (r ≢ reviewer)) → value_of_pair (table_of now name) p r ≡ value_of_pair (table_of old name) p r

-- the word stands for the pair, and all else stays
abbrev pub with_bid : List ℕ → List ℕ → List ℕ → ScoresValue → ScoresValue
with_bid paper reviewer word scores = record scores { bids = put_pair paper reviewer word scores.bids }

-- without the source's table
abbrev pub without_values : List ℕ → ScoresValue → ScoresValue
without_values source scores = record scores { values = without source scores.values }

-- the sources have one of values with this name
abbrev pub has_values : List SourceValue → List ℕ → Bool
has_values sources name = list_any (λ source. is_values source.kind && is_eq (id_cmp source.name name)) sources

-- the tables of these sources alone
abbrev pub of_sources : List SourceValue → ScoresValue → ScoresValue
of_sources sources scores = record scores { values = filter (λ entry. has_values sources entry.id) scores.values }

-- some table of values has the pair, or the table of bids
abbrev pub has_row : ScoresValue → List ℕ → List ℕ → Bool
has_row scores paper reviewer =
    list_any (λ source. has_pair source.value paper reviewer) scores.values || has_pair scores.bids paper reviewer

-- the value of a word, where it is one of these
abbrev pub value_of_word : List BidWord → List ℕ → Option ℤ
value_of_word words word = option_map (λ bid. bid.value) (row_of (λ bid. bid.word) word words)

-- the value that a pair has by a source of this kind
abbrev pub given_value : List BidWord → ScoresValue → List ℕ → List ℕ → List ℕ → Kind → Option ℤ
given_value words scores paper reviewer name Values = value_of_pair (table_of scores name) paper reviewer
given_value words scores paper reviewer name Bids = option_and_then (value_of_word words) (value_of_pair scores.bids paper reviewer)

-- the value of a pair by a source, in ten-thousandths
abbrev pub source_value : List BidWord → ScoresValue → List ℕ → List ℕ → SourceValue → ℤ
source_value words scores paper reviewer source = unwrap_or (given_value words scores paper reviewer source.name source.kind) source.default

-- each source's value times its weight in hundredths, summed
abbrev pub weighted_sum : List BidWord → ScoresValue → List ℕ → List ℕ → List SourceValue → ℤ
weighted_sum words scores paper reviewer [] = pos 0
weighted_sum words scores paper reviewer (source ∷ sources) =
    (source.weight *ℤ source_value words scores paper reviewer source) +ℤ weighted_sum words scores paper reviewer sources

-- the score of a pair, in millionths
unfoldable pub score_of : Spec → ScoresValue → List ℕ → List ℕ → ℤ
score_of spec scores paper reviewer = weighted_sum spec.words scores paper reviewer spec.sources
