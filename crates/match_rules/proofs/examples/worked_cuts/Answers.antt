use Rattle.std.proofs.Common.{refl}
use Rattle.match_rules.specs.Groups.{groups, group_of}
use Rattle.match_rules.proofs.examples.worked_cuts.Goals as goal

pub returns : goal.returns
unfolding groups group_of
returns c = record {
  low_need = refl;
  low_room = refl;
  locked_need = refl;
  locked_room = refl;
  house_need = refl;
  house_room = refl;
  thirds_need = refl;
  thirds_room = refl;
  idle_need = refl;
  idle_room = refl;
  above_need = refl;
  above_room = refl;
  above_none_room = refl;
}
