use Rattle.std.proofs.Common.{◌≡◌, ◌*◌, ◌≤◌}
use Rattle.dual_check.specs.declared.amounts.TheConstants.{MOST_AMOUNT}
use Rattle.match_rules.specs.Sums.{count_below, when}
use Rattle.dual_check.specs.Crossing.{crosses_group}
use Rattle.dual_check.proofs.cuts.limits.Given as goal

abbrev pub invariant-loop-group : goal.invariant-loop-group
invariant-loop-group l = (l.sum ≡ count_below l.group (λ g. when (crosses_group l.way l.rules l.cut g) l.rules.limit)) × (l.sum ≤ l.group * MOST_AMOUNT)
