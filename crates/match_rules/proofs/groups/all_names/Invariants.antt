use Rattle.std.proofs.Common.{◌≡◌, ℕ, ◌<◌, ◌≤◌, List, Some, length}
use Rattle.match_rules.specs.Rules.{reviewer_in}
use Rattle.match_rules.specs.GroupTable.{texts, HasName}
use Rattle.match_rules.proofs.groups.all_names.Given as goal

abbrev pub invariant-loop-reviewer : goal.invariant-loop-reviewer
invariant-loop-reviewer l = record {
  few : length l.names.items ≤ l.reviewer-index;
  named : (r : ℕ) (name : List ℕ) → r < l.reviewer-index → (reviewer_in l.reviewers r).institution ≡ Some name → HasName (texts l.names.items) name;
}
