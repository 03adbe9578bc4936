use Rattle.std.proofs.Common.{◌≡◌, map, take, All}
use Rattle.venue_rules.specs.Parts.{IsReviewer}
use Rattle.venue_rules.specs.VenueRules.{rule_reviewer}
use Rattle.venue_rules.proofs.rules.rule_reviewers.Given as goal

abbrev pub invariant-loop-reviewer : goal.invariant-loop-reviewer
invariant-loop-reviewer l = record {
  same : l.reviewers.items ≡ map (rule_reviewer l.tables) (take l.reviewer-index l.tables.reviewers);
  good : All (IsReviewer l.tables) (take l.reviewer-index l.tables.reviewers);
}
