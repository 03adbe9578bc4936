use Rattle.std.proofs.Common.{◌≡◌, ◌*◌, ◌≤◌}
use Rattle.match_rules.specs.Evidence.{marks}
use Rattle.match_rules.specs.Rules.{paper_at}
use Rattle.dual_check.specs.declared.amounts.TheConstants.{MOST_AMOUNT}
use Rattle.match_rules.specs.Sums.{count_below, when}
use Rattle.dual_check.proofs.cuts.demands.Given as goal

abbrev pub invariant-loop-paper : goal.invariant-loop-paper
invariant-loop-paper l = (l.sum ≡ count_below l.paper (λ p. when (marks l.cut.papers p) (paper_at l.rules p).demand)) × (l.sum ≤ l.paper * MOST_AMOUNT)
