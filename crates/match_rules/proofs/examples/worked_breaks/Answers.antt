use Rattle.std.proofs.Common.{refl}
use Rattle.match_rules.specs.Groups.{groups, group_of}
use Rattle.match_rules.specs.Breaks.{first_break_of}
use Rattle.match_rules.proofs.examples.worked_breaks.Goals as goal

pub returns : goal.returns
unfolding groups group_of first_break_of
returns c = record {
  sound = refl;
  cap = refl;
  demand = refl;
  share = refl;
  lock = refl;
  fixed = refl;
  houses = refl;
  parts = refl;
  empty = refl;
}
