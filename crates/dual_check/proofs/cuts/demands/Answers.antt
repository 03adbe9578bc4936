use Rattle.std.proofs.Common.{arith}
use Rattle.match_rules.proofs.SumLaws.{count_below_next}
use Rattle.dual_check.proofs.cuts.demands.Goals as goal

pub loop-paper-preserved : goal.loop-paper-preserved
loop-paper-preserved c = (rw count_below_next (omega arith), omega arith)
