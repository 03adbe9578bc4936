use Rattle.std.proofs.Common.{◌≡◌, ◌++◌}
use Rattle.score_spec.specs.Keys.{keys_of}
use Rattle.score_spec.specs.PairTables.{ArePairs}
use Rattle.score_spec.specs.TextMaps.{entries_of}
use Rattle.score_spec.proofs.union.keys_of.Given as goal

abbrev pub invariant-loop-paper : goal.invariant-loop-paper
invariant-loop-paper l = (l.keys.items ++ keys_of (entries_of l.paper-iterator) ≡ keys_of l.union) × ArePairs (entries_of l.paper-iterator)
