use Rattle.std.proofs.Common.{◌≡◌, ◌+◌, ◌*◌, ◌≤◌, drop}
use Rattle.venue_rules.specs.VenueRules.{demand_sum}
use Rattle.venue_rules.proofs.rules.demand_sum.Given as goal

abbrev pub invariant-loop-paper : goal.invariant-loop-paper
invariant-loop-paper l = record {
  most : l.sum ≤ 100 * l.paper-index;
  rest : l.sum + demand_sum l.tables (drop l.paper-index l.tables.papers) ≡ demand_sum l.tables l.tables.papers;
}
