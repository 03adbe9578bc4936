use Rattle.std.proofs.Common.{refl}
use Rattle.score_spec.specs.Scores.{score_of}
use Rattle.score_spec.proofs.examples.worked_scores.Goals as goal

pub returns : goal.returns
unfolding score_of
returns c = record {
  one = refl;
  eight_tenths = refl;
  half = refl;
  none = refl;
  bid = refl;
  bid_without_value = refl;
  no_bid = refl;
  weighted = refl;
}
