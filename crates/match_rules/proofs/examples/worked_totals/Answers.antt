use Rattle.std.proofs.Common.{refl}
use Rattle.match_rules.specs.Groups.{groups, group_of}
use Rattle.match_rules.proofs.examples.worked_totals.Goals as goal

pub returns : goal.returns
unfolding groups group_of
returns c = record {
  half_tickets = refl;
  half_first = refl;
  half_second = refl;
  half_total = refl;
  half_bound = refl;
  seven_total = refl;
  seven_bound = refl;
  seven_loose = refl;
  negative_total = refl;
  negative_bound = refl;
  thirds_first = refl;
  thirds_last = refl;
  thirds_total = refl;
  fair_bound = refl;
  fair_total = refl;
}
