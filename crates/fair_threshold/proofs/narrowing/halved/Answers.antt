use Rattle.std.proofs.Common.{arith}
use Rattle.std.proofs.lemmas.Int.{ints}
use Rattle.std.specs.Prelude.{◌-ℤ◌}
use Rattle.fair_threshold.proofs.LevelLaws.{span-falls}
use Rattle.fair_threshold.proofs.narrowing.halved.Goals as goal

pub loop-range-smaller : goal.loop-range-smaller
loop-range-smaller c =
    let below = c.loop-range-test.true in
    span-falls (c.loop-range.range.high -ℤ c.loop-range.range.low) (c.in_ok-range.range.high -ℤ c.in_ok-range.range.low)
    c.in_ok-range.ensures.narrower (omega (arith, ints, below))
