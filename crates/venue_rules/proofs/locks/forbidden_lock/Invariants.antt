use Rattle.std.proofs.Common.{◌≡◌}
use Rattle.score_spec.specs.TextMaps.{entries_of}
use Rattle.venue_rules.specs.VenueRules.{forbidden_in}
use Rattle.venue_rules.proofs.locks.forbidden_lock.Given as goal

abbrev pub invariant-loop-paper : goal.invariant-loop-paper
invariant-loop-paper l = forbidden_in l.tables (entries_of l.paper-iterator) ≡ forbidden_in l.tables l.tables.marks
