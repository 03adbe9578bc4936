use Rattle.std.proofs.Common.{◌≡◌, []}
use Rattle.match_rules.specs.Rules.{locked_below, rules_value}
use Rattle.match_rules.proofs.making.locked_of.Given as goal

abbrev pub invariant-loop-e : goal.invariant-loop-e
invariant-loop-e l = l.places.items ≡ locked_below (rules_value l.tickets 0 [] [] l.pairs) l.e
