use Rattle.std.proofs.Common.{◌≡◌, None}
use Rattle.match_rules.specs.First.{first_below}
use Rattle.match_rules.specs.Sound.{cap_counted}
use Rattle.match_rules.proofs.check.broken_cap.Given as goal

abbrev pub invariant-loop-e : goal.invariant-loop-e
invariant-loop-e l = first_below l.e (cap_counted l.rules l.counts) ≡ None
