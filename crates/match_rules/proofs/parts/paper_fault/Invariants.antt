use Rattle.std.proofs.Common.{◌≡◌, ℕ, ◌<◌, ◌≤◌}
use Rattle.match_rules.specs.declared.rules.TheConstants.{MOST_PAPERS, MOST_DEMAND_IN_ALL}
use Rattle.match_rules.specs.NextRows.{demand_below, IsNextPaper}
use Rattle.match_rules.proofs.parts.paper_fault.Given as goal

abbrev pub invariant-loop-p : goal.invariant-loop-p
invariant-loop-p l = ((q : ℕ) → q < l.p → IsNextPaper l.papers q) × (l.p ≤ MOST_PAPERS) × (l.before ≡ demand_below l.papers l.p) × (l.before ≤ MOST_DEMAND_IN_ALL)
