use Rattle.std.proofs.Common.{arith}
use Rattle.match_rules.proofs.SumLaws.{count_below_next}
use Rattle.dual_check.proofs.cuts.limits.Goals as goal

pub loop-group-preserved : goal.loop-group-preserved
loop-group-preserved c = (rw count_below_next (omega arith), omega arith)
