use Rattle.std.proofs.Common.{◌≡◌, ◌++◌}
use Rattle.venue_rules.specs.Listed.{places_by}
use Rattle.score_spec.specs.TextMaps.{entries_of}
use Rattle.venue_rules.proofs.listed.list_values.Given as goal

abbrev pub invariant-loop-table : goal.invariant-loop-table
invariant-loop-table l = l.places.items ++ places_by l.reviewers (entries_of l.table-iterator) l.paper ≡ l.initial.places.items ++ places_by l.reviewers l.tables l.paper
