use Rattle.std.proofs.Common.{ℕ, ◌<◌, ◌≤◌}
use Rattle.match_rules.specs.declared.rules.TheConstants.{MOST_REVIEWERS}
use Rattle.match_rules.specs.NextRows.{IsNextReviewer}
use Rattle.match_rules.proofs.parts.reviewer_fault.Given as goal

abbrev pub invariant-loop-r : goal.invariant-loop-r
invariant-loop-r l = ((q : ℕ) → q < l.r → IsNextReviewer l.reviewers q) × (l.r ≤ MOST_REVIEWERS)
