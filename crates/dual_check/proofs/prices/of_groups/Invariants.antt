use Rattle.std.proofs.Common.{◌≡◌, ◌^◌, ◌*◌, pos, ◌*ℤ◌, ◌≤ℤ◌, neg_ℤ}
use Rattle.std.specs.Int.{int_max}
use Rattle.match_rules.specs.Evidence.{price_at}
use Rattle.match_rules.specs.Sums.{sum_below}
use Rattle.dual_check.proofs.prices.of_groups.Given as goal

abbrev pub invariant-loop-group : goal.invariant-loop-group
invariant-loop-group l =
    (l.sum ≡ sum_below l.group (λ g. pos l.rules.limit *ℤ int_max (pos 0) (price_at l.prices.groups g)))
    × (neg_ℤ (pos (2 ^ 80 * l.group)) ≤ℤ l.sum) × (l.sum ≤ℤ pos (2 ^ 80 * l.group))
