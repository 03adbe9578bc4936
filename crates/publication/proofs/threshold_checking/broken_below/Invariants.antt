use Rattle.std.proofs.Common.{◌≡◌, None}
use Rattle.match_rules.specs.First.{first_below}
use Rattle.publication.specs.Checks.{below_break}
use Rattle.publication.proofs.threshold_checking.broken_below.Given as goal

abbrev pub invariant-loop-e : goal.invariant-loop-e
invariant-loop-e l = first_below l.e (below_break l.rules l.level l.shares) ≡ None
