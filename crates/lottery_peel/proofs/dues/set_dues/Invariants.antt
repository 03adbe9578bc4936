use Rattle.lottery_peel.specs.Standing.{AreTurned}
use Rattle.lottery_peel.proofs.dues.set_dues.Given as goal

-- those of the steps so far are set
abbrev pub invariant-loop-place : goal.invariant-loop-place
invariant-loop-place l = AreTurned l.all l.ticket l.steps l.place l.initial.dues l.dues
