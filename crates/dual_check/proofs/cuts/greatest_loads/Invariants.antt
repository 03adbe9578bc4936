use Rattle.std.proofs.Common.{◌≡◌, ◌*◌, ◌≤◌}
use Rattle.match_rules.specs.Evidence.{marks}
use Rattle.match_rules.specs.Rules.{reviewer_at}
use Rattle.dual_check.specs.declared.amounts.TheConstants.{MOST_AMOUNT}
use Rattle.match_rules.specs.Sums.{count_below, when}
use Rattle.dual_check.proofs.cuts.greatest_loads.Given as goal

abbrev pub invariant-loop-reviewer : goal.invariant-loop-reviewer
invariant-loop-reviewer l = (l.sum ≡ count_below l.reviewer (λ r. when (marks l.cut.reviewers r) (reviewer_at l.rules r).greatest)) × (l.sum ≤ l.reviewer * MOST_AMOUNT)
