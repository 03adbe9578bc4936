use Rattle.fair_threshold.specs.Search.{IsCeiling}
use Rattle.fair_threshold.proofs.descent.start_of.Given as goal

abbrev pub invariant-loop-step : goal.invariant-loop-step
invariant-loop-step l = IsCeiling l.rules l.ceiling
