use Rattle.std.proofs.Common.{◌≡◌, ◌++◌}
use Rattle.std.specs.Prelude.{filter}
use Rattle.venue_rules.specs.Listed.{is_lock, places_in}
use Rattle.score_spec.specs.TextMaps.{entries_of}
use Rattle.venue_rules.proofs.listed.list_locks.Given as goal

abbrev pub invariant-loop-id : goal.invariant-loop-id
invariant-loop-id l = l.places.items ++ places_in l.reviewers (filter is_lock (entries_of l.id-iterator)) ≡ l.initial.places.items ++ places_in l.reviewers (filter is_lock l.marks)
