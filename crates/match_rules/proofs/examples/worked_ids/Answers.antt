use Rattle.std.proofs.Common.{refl}
use Rattle.std.specs.Str.{chars, is_utf8}
use Rattle.match_rules.specs.Id.{is_id, is_institution}
use Rattle.match_rules.proofs.examples.worked_ids.Goals as goal

pub returns : goal.returns
unfolding is_id is_institution chars is_utf8 lib.Utf8.encode
returns c = record {
  none = refl;
  longest = refl;
  too_long = refl;
  comma = refl;
  quote = refl;
  semicolon = refl;
  house_semicolon = refl;
  house = refl;
  space = refl;
  nul = refl;
  delete = refl;
  next_line = refl;
  no_break_space = refl;
  wide_space = refl;
  last_control = refl;
  letter = refl;
  broken = refl;
}
