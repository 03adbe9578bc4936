use Rattle.std.proofs.Common.{◌+◌, arith}
use Rattle.unit_turns.proofs.Units.{AreTakenTo-more}
use Rattle.unit_turns.proofs.carrying.carry_round.Goals as goal

pub loop-place-preserved : goal.loop-place-preserved
loop-place-preserved c =
    rw c.carry_on.ensures
    (AreTakenTo-more c.args.net.now c.args.flow.now c.loop-place.flow c.args.steps.now c.loop-place.place c.loop-place-test.true c.requires.free c.loop-place.invariant (c.loop-place.place + 1) (omega arith))
