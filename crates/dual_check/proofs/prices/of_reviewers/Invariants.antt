use Rattle.std.proofs.Common.{◌≡◌, ◌^◌, ◌*◌, pos, ◌≤ℤ◌, neg_ℤ}
use Rattle.match_rules.specs.Evidence.{price_at, most_at}
use Rattle.match_rules.specs.Rules.{reviewer_at}
use Rattle.match_rules.specs.Sums.{sum_below}
use Rattle.dual_check.proofs.prices.of_reviewers.Given as goal

abbrev pub invariant-loop-reviewer : goal.invariant-loop-reviewer
invariant-loop-reviewer l =
    (l.sum ≡ sum_below l.reviewer (λ r. most_at (reviewer_at l.rules r).least (reviewer_at l.rules r).greatest (price_at l.prices.reviewers r)))
    × (neg_ℤ (pos (2 ^ 80 * l.reviewer)) ≤ℤ l.sum) × (l.sum ≤ℤ pos (2 ^ 80 * l.reviewer))
