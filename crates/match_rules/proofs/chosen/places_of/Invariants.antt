use Rattle.std.proofs.Common.{◌≡◌}
use Rattle.match_rules.specs.Chosen.{chosen_below}
use Rattle.match_rules.proofs.chosen.places_of.Given as goal

abbrev pub invariant-loop-e : goal.invariant-loop-e
invariant-loop-e l = l.places.items ≡ chosen_below l.counts l.e
