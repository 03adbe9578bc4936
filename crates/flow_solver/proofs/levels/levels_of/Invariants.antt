use Rattle.flow_solver.specs.Blocking.{AreLevels}
use Rattle.flow_solver.proofs.levels.levels_of.Given as goal

abbrev pub invariant-loop-place : goal.invariant-loop-place
invariant-loop-place l = AreLevels l.state.network.now l.levels
