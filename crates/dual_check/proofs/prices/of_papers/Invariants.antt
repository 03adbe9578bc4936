use Rattle.std.proofs.Common.{◌≡◌, ◌^◌, ◌*◌, pos, ◌*ℤ◌, ◌≤ℤ◌, neg_ℤ}
use Rattle.match_rules.specs.Evidence.{price_at}
use Rattle.match_rules.specs.Rules.{paper_at}
use Rattle.match_rules.specs.Sums.{sum_below}
use Rattle.dual_check.proofs.prices.of_papers.Given as goal

abbrev pub invariant-loop-paper : goal.invariant-loop-paper
invariant-loop-paper l =
    (l.sum ≡ sum_below l.paper (λ p. pos (paper_at l.rules p).demand *ℤ price_at l.prices.papers p))
    × (neg_ℤ (pos (2 ^ 80 * l.paper)) ≤ℤ l.sum) × (l.sum ≤ℤ pos (2 ^ 80 * l.paper))
