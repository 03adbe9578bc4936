use Rattle.std.proofs.Common.{ℕ, ◌<◌, ◌≤◌}
use Rattle.match_rules.specs.declared.rules.TheConstants.{MOST_PAIRS}
use Rattle.match_rules.specs.NextRows.{IsNextPair}
use Rattle.match_rules.proofs.parts.pair_fault.Given as goal

abbrev pub invariant-loop-e : goal.invariant-loop-e
invariant-loop-e l = ((q : ℕ) → q < l.e → IsNextPair l.tickets l.papers l.reviewers l.pairs q) × (l.e ≤ MOST_PAIRS)
