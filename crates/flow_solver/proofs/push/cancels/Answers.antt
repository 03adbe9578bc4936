use Rattle.std.proofs.Common.{arith}
use Rattle.std.specs.Prelude.{◌+ℤ◌, ◌-ℤ◌, FitsSigned}
use Rattle.std.specs.Int.{w64}
use Rattle.std.proofs.lemmas.Int.{ints, to_z-of_z}
use Rattle.flow_solver.proofs.Updates.{within_fits, zero_bits}
use Rattle.flow_solver.proofs.push.cancels.Goals as goal

pub returns : goal.returns
returns c =
    let cost = c.requires.cost_small in
    let from = c.requires.from_small in
    let to = c.requires.to_small in
    let cost_fits : FitsSigned w64 c.args.cost = within_fits c.args.cost (record { low = omega (arith, ints, cost.low); high = omega (arith, ints, cost.high) }) in
    let from_fits : FitsSigned w64 c.args.from = within_fits c.args.from (record { low = omega (arith, ints, from.low); high = omega (arith, ints, from.high) }) in
    let to_fits : FitsSigned w64 c.args.to = within_fits c.args.to (record { low = omega (arith, ints, to.low); high = omega (arith, ints, to.high) }) in
    let sum : FitsSigned w64 (c.args.cost +ℤ c.args.from) = within_fits (c.args.cost +ℤ c.args.from) (record { low = omega (arith, ints, cost.low, from.low); high = omega (arith, ints, cost.high, from.high) }) in
    let all : FitsSigned w64 ((c.args.cost +ℤ c.args.from) -ℤ c.args.to) =
    within_fits ((c.args.cost +ℤ c.args.from) -ℤ c.args.to) (record { low = omega (arith, ints, cost.low, from.low, to.high); high = omega (arith, ints, cost.high, from.high, to.low) }) in
    rw (to_z-of_z w64 c.args.cost cost_fits, to_z-of_z w64 c.args.from from_fits, to_z-of_z w64 (c.args.cost +ℤ c.args.from) sum, to_z-of_z w64 c.args.to to_fits)
    (zero_bits ((c.args.cost +ℤ c.args.from) -ℤ c.args.to) all)
