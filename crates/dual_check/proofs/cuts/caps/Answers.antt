use Rattle.std.proofs.Common.{arith}
use Rattle.match_rules.proofs.SumLaws.{count_below_next}
use Rattle.dual_check.proofs.cuts.caps.Goals as goal

pub loop-pair-preserved : goal.loop-pair-preserved
loop-pair-preserved c = (rw count_below_next (omega arith), omega arith)
