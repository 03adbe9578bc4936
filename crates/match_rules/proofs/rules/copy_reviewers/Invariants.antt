use Rattle.std.proofs.Common.{◌≡◌, take}
use Rattle.match_rules.proofs.rules.copy_reviewers.Given as goal

abbrev pub invariant-loop-reviewer : goal.invariant-loop-reviewer
invariant-loop-reviewer l = l.copies.items ≡ take l.reviewer-index l.reviewers
