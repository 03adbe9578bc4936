use Rattle.std.proofs.Common.{◌≡◌, ◌||◌, ℕ, List}
use Rattle.std.specs.List.{list_any}
use Rattle.score_spec.specs.PairTables.{ArePairs, has_pair}
use Rattle.score_spec.specs.TextMaps.{entries_of}
use Rattle.score_spec.proofs.union.union_of.Given as goal

abbrev pub invariant-loop-table : goal.invariant-loop-table
invariant-loop-table l =
    ArePairs l.union
    × ((p r : List ℕ) → (has_pair l.union p r || list_any (λ table. has_pair table.value p r) (entries_of l.table-iterator)) ≡ list_any (λ table. has_pair table.value p r) l.tables)
