use Rattle.flow_solver.specs.Blocking.{AreLevels}
use Rattle.flow_solver.proofs.levels.deficits.Given as goal

abbrev pub invariant-loop-node : goal.invariant-loop-node
invariant-loop-node l = AreLevels l.state.network.now l.levels
