use Rattle.std.proofs.Common.{◌≡◌, take}
use Rattle.score_spec.proofs.spec.Sources.copy.Given as goal

abbrev pub invariant-loop-source : goal.invariant-loop-source
invariant-loop-source l = l.items.items ≡ take l.source-index l.source-items
