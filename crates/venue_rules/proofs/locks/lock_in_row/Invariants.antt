use Rattle.std.proofs.Common.{◌≡◌}
use Rattle.score_spec.specs.TextMaps.{entries_of}
use Rattle.venue_rules.specs.VenueRules.{forbidden_in_row}
use Rattle.venue_rules.proofs.locks.lock_in_row.Given as goal

abbrev pub invariant-loop-reviewer : goal.invariant-loop-reviewer
invariant-loop-reviewer l = forbidden_in_row l.tables l.paper (entries_of l.reviewer-iterator) ≡ forbidden_in_row l.tables l.paper l.marks
