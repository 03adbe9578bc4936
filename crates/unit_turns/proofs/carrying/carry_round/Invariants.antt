use Rattle.unit_turns.proofs.Units.{AreTakenTo}
use Rattle.unit_turns.proofs.carrying.carry_round.Given as goal

-- the steps so far were taken
abbrev pub invariant-loop-place : goal.invariant-loop-place
invariant-loop-place l = AreTakenTo l.net l.initial.flow l.flow l.steps l.place
