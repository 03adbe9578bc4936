use Rattle.std.proofs.Common.{subst, arith}
use Rattle.lottery_peel.specs.Choices.{AreChosenBut}
use Rattle.lottery_peel.proofs.ChoiceLaws.{chosen-all}
use Rattle.lottery_peel.proofs.choices.choose_again.Goals as goal

pub returns : goal.returns
returns c =
    chosen-all c.args.counts.now c.args.steps.now c.loop-place.places.items
    (subst (λ n. AreChosenBut c.args.counts.now c.args.steps.now n c.loop-place.places.items) (omega (arith, c.loop-place.auto.place-end, c.loop-place-test.false)) c.loop-place.invariant)
