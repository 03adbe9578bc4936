-- Pairs as keys, by paper and then by reviewer.
use Rattle.std.specs.Prelude.{◌≡◌, ◌↔◌, true, ℕ, Bool, List, [], ◌++◌, ◌∷◌, map}
use Rattle.std.specs.List.{Contains}
use Rattle.std.specs.List.Sorted.{IsStrictlySortedBy}
use Rattle.std.specs.Ordering.{ordering_then}
use Rattle.std.specs.declared.cmp.Ordering.{Ordering}
use Rattle.roster.specs.Table.{id_cmp}
use Rattle.score_spec.specs.declared.union.PairKey.{PairKey}
use Rattle.score_spec.specs.PairTables.{Entries, PairsValue}

abbrev pub pair_key : List ℕ → List ℕ → PairKey
pair_key paper reviewer = record { paper = paper; reviewer = reviewer }

-- by paper and then by reviewer
abbrev pub key_cmp : PairKey → PairKey → Ordering
key_cmp a b = ordering_then (id_cmp a.paper b.paper) (id_cmp a.reviewer b.reviewer)

-- each key is below those after it
abbrev pub AscendKeys : List PairKey → Type 0
AscendKeys keys = IsStrictlySortedBy key_cmp keys

-- the keys are those that pass
abbrev pub AreKeys : (List ℕ → List ℕ → Bool) → List PairKey → Type 0
AreKeys test keys = (paper reviewer : List ℕ) → Contains keys (pair_key paper reviewer) ↔ (test paper reviewer ≡ true)

abbrev pub paper_keys : {V : Type 0} → List ℕ → Entries V → List PairKey
paper_keys paper reviewers = map (λ reviewer. pair_key paper reviewer.id) reviewers

-- the pairs of a table, in their order
abbrev pub keys_of : {V : Type 0} → PairsValue V → List PairKey
keys_of [] = []
keys_of (paper ∷ table) = paper_keys paper.id paper.value ++ keys_of table
