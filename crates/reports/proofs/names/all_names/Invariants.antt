use Rattle.std.proofs.Common.{◌≡◌, take}
use Rattle.match_rules.specs.GroupTable.{texts}
use Rattle.reports.specs.Institutions.{names_of}
use Rattle.reports.proofs.names.all_names.Given as goal

abbrev pub invariant-loop-reviewer : goal.invariant-loop-reviewer
invariant-loop-reviewer l = texts l.names.items ≡ names_of (take l.reviewer-index l.reviewers)
