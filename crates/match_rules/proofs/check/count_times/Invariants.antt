use Rattle.std.proofs.Common.{take, length}
use Rattle.match_rules.specs.Assignments.{times}
use Rattle.match_rules.specs.Sound.{AreCounts}
use Rattle.match_rules.proofs.check.count_times.Given as goal

abbrev pub invariant-loop-piece : goal.invariant-loop-piece
invariant-loop-piece l = AreCounts l.counts (length l.rules.pairs) (times (take l.piece-index l.pieces))
