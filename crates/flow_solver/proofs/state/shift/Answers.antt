use Rattle.std.proofs.Common.{arith}
use Rattle.std.proofs.lemmas.Int.{ints}
use Rattle.flow_solver.proofs.Shifts.{IsShifted-from_sets}
use Rattle.flow_solver.proofs.state.shift.Goals as goal

pub returns-clause-shifted : goal.returns-clause-shifted
returns-clause-shifted c = IsShifted-from_sets c.args.excess.now c.args.from c.args.to c.args.amount _ _ c.requires.from_in c.requires.to_in (omega (arith, ints)) (omega (arith, ints))
