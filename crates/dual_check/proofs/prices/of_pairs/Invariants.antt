use Rattle.std.proofs.Common.{◌≡◌, ◌^◌, ◌*◌, pos, ◌≤ℤ◌, neg_ℤ}
use Rattle.match_rules.specs.Assignments.{keeps}
use Rattle.match_rules.specs.Evidence.{most_at, rest}
use Rattle.match_rules.specs.Rules.{pair_at}
use Rattle.match_rules.specs.Sums.{sum_below, int_when}
use Rattle.dual_check.proofs.prices.of_pairs.Given as goal

abbrev pub invariant-loop-pair : goal.invariant-loop-pair
invariant-loop-pair l =
    (l.sum ≡ sum_below l.pair (λ e. int_when (keeps l.rules l.sieve e) (most_at (pair_at l.rules e).floor (pair_at l.rules e).cap (rest l.rules l.prices e))))
    × (neg_ℤ (pos (2 ^ 80 * l.pair)) ≤ℤ l.sum) × (l.sum ≤ℤ pos (2 ^ 80 * l.pair))
