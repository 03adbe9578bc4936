use Rattle.std.proofs.Common.{arith}
use Rattle.std.proofs.lemmas.Int.{ints}
use Rattle.match_rules.proofs.SumLaws.{sum_below_next}
use Rattle.dual_check.proofs.prices.of_papers.Goals as goal

pub loop-paper-preserved : goal.loop-paper-preserved
loop-paper-preserved c = (rw sum_below_next (omega (arith, ints)), omega (arith, ints), omega (arith, ints))
