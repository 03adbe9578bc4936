use Rattle.std.proofs.Common.{◌≡◌, ◌++◌}
use Rattle.venue_rules.specs.Listed.{places_in}
use Rattle.score_spec.specs.TextMaps.{entries_of}
use Rattle.venue_rules.proofs.listed.list_entries.Given as goal

abbrev pub invariant-loop-id : goal.invariant-loop-id
invariant-loop-id g l = l.places.items ++ places_in l.reviewers (entries_of l.id-iterator) ≡ l.initial.places.items ++ places_in l.reviewers (l.entries)
