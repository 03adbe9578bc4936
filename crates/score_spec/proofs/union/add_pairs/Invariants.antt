use Rattle.std.proofs.Common.{◌≡◌, ◌||◌, ℕ, List}
use Rattle.score_spec.specs.PairTables.{ArePairs, has_pair}
use Rattle.score_spec.specs.TextMaps.{entries_of}
use Rattle.score_spec.proofs.union.add_pairs.Given as goal

abbrev pub invariant-loop-paper : goal.invariant-loop-paper
invariant-loop-paper g l =
    ArePairs l.union × ArePairs (entries_of l.paper-iterator)
    × ((p r : List ℕ) → (has_pair l.union p r || has_pair (entries_of l.paper-iterator) p r) ≡ (has_pair l.fn.union p r || has_pair l.table p r))
