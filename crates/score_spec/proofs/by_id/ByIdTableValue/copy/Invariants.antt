use Rattle.std.proofs.Common.{◌≡◌, ◌++◌}
use Rattle.score_spec.specs.TextMaps.{entries_of}
use Rattle.score_spec.proofs.by_id.ByIdTableValue.copy.Given as goal

abbrev pub invariant-loop-id : goal.invariant-loop-id
invariant-loop-id g l = l.copy ++ entries_of l.id-iterator ≡ l.self
