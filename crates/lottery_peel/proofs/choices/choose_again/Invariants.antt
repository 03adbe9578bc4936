use Rattle.lottery_peel.specs.Choices.{AreChosenBut}
use Rattle.lottery_peel.proofs.choices.choose_again.Given as goal

-- those of the steps so far are chosen
abbrev pub invariant-loop-place : goal.invariant-loop-place
invariant-loop-place l = AreChosenBut l.counts l.steps l.place l.places.items
