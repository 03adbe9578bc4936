use Rattle.std.proofs.Common.{arith}
use Rattle.match_rules.proofs.SumLaws.{count_below_next}
use Rattle.dual_check.proofs.cuts.greatest_loads.Goals as goal

pub loop-reviewer-preserved : goal.loop-reviewer-preserved
loop-reviewer-preserved c = (rw count_below_next (omega arith), omega arith)
