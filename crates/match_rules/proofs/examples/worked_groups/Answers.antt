use Rattle.std.proofs.Common.{refl}
use Rattle.match_rules.specs.Groups.{groups, group_of}
use Rattle.match_rules.proofs.examples.worked_groups.Goals as goal

pub returns : goal.returns
unfolding groups group_of
returns c = record {
  one = refl;
  first = refl;
  second = refl;
  two = refl;
  third = refl;
  member = refl;
  none = refl;
  no_group = refl;
}
