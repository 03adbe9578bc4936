use Rattle.std.proofs.Common.{◌≡◌, map, take, All}
use Rattle.venue_rules.specs.Parts.{IsPaper}
use Rattle.venue_rules.specs.VenueRules.{rule_paper}
use Rattle.venue_rules.proofs.rules.rule_papers.Given as goal

abbrev pub invariant-loop-paper : goal.invariant-loop-paper
invariant-loop-paper l = record {
  same : l.papers.items ≡ map (rule_paper l.tables) (take l.paper-index l.tables.papers);
  good : All (IsPaper l.tables) (take l.paper-index l.tables.papers);
}
