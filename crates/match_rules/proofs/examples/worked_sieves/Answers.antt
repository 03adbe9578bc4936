use Rattle.std.proofs.Common.{refl}
use Rattle.match_rules.proofs.examples.worked_sieves.Goals as goal

pub returns : goal.returns
returns c = record {
  all = refl;
  at_least = refl;
  above = refl;
  negative = refl;
  locked = refl;
  kept = refl;
  dropped = refl;
}
