use Rattle.std.proofs.Common.{◌≡◌, ◌*◌, ◌≤◌}
use Rattle.match_rules.specs.Rules.{pair_at}
use Rattle.dual_check.specs.declared.amounts.TheConstants.{MOST_AMOUNT}
use Rattle.match_rules.specs.Sums.{count_below, when}
use Rattle.dual_check.specs.Crossing.{crosses}
use Rattle.dual_check.proofs.cuts.caps.Given as goal

abbrev pub invariant-loop-pair : goal.invariant-loop-pair
invariant-loop-pair l = (l.sum ≡ count_below l.pair (λ e. when (crosses l.way l.rules l.sieve l.cut e) (pair_at l.rules e).cap)) × (l.sum ≤ l.pair * MOST_AMOUNT)
