use Rattle.std.proofs.Common.{take, length}
use Rattle.match_rules.specs.Assignments.{paper_count}
use Rattle.match_rules.specs.Sound.{AreCounts}
use Rattle.match_rules.proofs.check.count_papers.Given as goal

abbrev pub invariant-loop-e : goal.invariant-loop-e
invariant-loop-e l = AreCounts l.counts (length l.rules.papers) (paper_count l.rules (take l.e-index l.places))
