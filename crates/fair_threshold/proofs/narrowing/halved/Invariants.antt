use Rattle.std.specs.Prelude.{◌-ℤ◌}
use Rattle.fair_threshold.specs.Search.{IsRange}
use Rattle.fair_threshold.proofs.LevelLaws.{span_of}
use Rattle.fair_threshold.proofs.narrowing.halved.Given as goal

abbrev pub invariant-loop-range : goal.invariant-loop-range
invariant-loop-range l = IsRange l.rules l.range

abbrev pub decreases-loop-range : goal.decreases-loop-range
decreases-loop-range l = span_of (l.range.high -ℤ l.range.low)
