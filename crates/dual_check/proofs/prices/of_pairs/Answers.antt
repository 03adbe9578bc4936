use Rattle.std.proofs.Common.{arith}
use Rattle.std.proofs.lemmas.Int.{ints}
use Rattle.match_rules.proofs.SumLaws.{sum_below_next}
use Rattle.dual_check.proofs.prices.of_pairs.Goals as goal

pub loop-pair-preserved : goal.loop-pair-preserved
loop-pair-preserved c = (rw sum_below_next (omega (arith, ints)), omega (arith, ints), omega (arith, ints))
