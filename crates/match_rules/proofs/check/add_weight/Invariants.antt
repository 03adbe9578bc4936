use Rattle.std.proofs.Common.{◌+◌, ◌*◌, take, length, get_or}
use Rattle.match_rules.specs.Assignments.{holds}
use Rattle.match_rules.specs.Sound.{AreCounts}
use Rattle.match_rules.proofs.check.add_weight.Given as goal

abbrev pub invariant-loop-e : goal.invariant-loop-e
invariant-loop-e l = AreCounts l.counts (length l.fn.counts) (λ e. get_or l.fn.counts e 0 + l.weight * holds (take l.e-index l.places) e)
