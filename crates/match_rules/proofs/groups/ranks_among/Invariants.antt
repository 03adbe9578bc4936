use Rattle.std.proofs.Common.{◌≡◌, ℕ, ◌<◌, None, length, get_or}
use Rattle.match_rules.specs.Rules.{reviewer_in}
use Rattle.match_rules.specs.GroupTable.{texts, IsRank}
use Rattle.match_rules.proofs.groups.ranks_among.Given as goal

abbrev pub invariant-loop-reviewer : goal.invariant-loop-reviewer
invariant-loop-reviewer l = record {
  as_long : length l.ranks.items ≡ l.reviewer-index;
  each : (r : ℕ) → r < l.reviewer-index → IsRank (texts l.names) (reviewer_in l.reviewers r).institution (get_or l.ranks.items r None);
}
