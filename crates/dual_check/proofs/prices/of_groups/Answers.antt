use Rattle.std.proofs.Common.{arith}
use Rattle.std.proofs.lemmas.Int.{ints}
use Rattle.match_rules.proofs.SumLaws.{sum_below_next}
use Rattle.dual_check.proofs.prices.of_groups.Goals as goal

pub loop-group-preserved : goal.loop-group-preserved
loop-group-preserved c = (rw sum_below_next (omega (arith, ints)), omega (arith, ints), omega (arith, ints))
