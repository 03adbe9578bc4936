use Rattle.fair_threshold.specs.Search.{IsLeastBelow}
use Rattle.fair_threshold.proofs.scores.least_score.Given as goal

abbrev pub invariant-loop-pair : goal.invariant-loop-pair
invariant-loop-pair l = IsLeastBelow l.rules l.shares l.pair l.least
