use Rattle.std.proofs.Common.{refl}
use Rattle.score_spec.proofs.examples.worked_tables.Goals as goal

pub returns : goal.returns
returns c = record {
  found = refl;
  other_paper = refl;
  count = refl;
  last = refl;
  same_count = refl;
  one_more = refl;
  row = refl;
  no_row = refl;
  keys = refl;
  cleared = refl;
}
