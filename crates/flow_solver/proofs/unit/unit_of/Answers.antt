use Rattle.std.proofs.Common.{◌≡◌, arith}
use Rattle.std.specs.Int.{w64}
use Rattle.std.proofs.lemmas.Int.{ints, to_z-of_z}
use Rattle.bounded_network.specs.Network.{arc_at}
use Rattle.flow_solver.specs.Costs.{magnitude_at}
use Rattle.flow_solver.proofs.Costing.{IsUnitTo-more}
use Rattle.flow_solver.proofs.Updates.{within_fits}
use Rattle.flow_solver.proofs.unit.unit_of.Goals as goal

pub loop-place-preserved : goal.loop-place-preserved
loop-place-preserved c =
    let within = rw c.arc_of.ensures.value at c.arc_of.ensures.within in
    let fits = within_fits (arc_at c.args.net.now c.loop-place.place).cost (record { low = omega (arith, ints, within.cost_low); high = omega (arith, ints, within.cost_high) }) in
    let is : c.unsigned_abs.result ≡ magnitude_at c.args.net.now c.loop-place.place =
    rw (c.arc_of.ensures.value, to_z-of_z w64 (arc_at c.args.net.now c.loop-place.place).cost fits) at c.unsigned_abs.ensures.value in
    IsUnitTo-more c.args.net.now c.loop-place.place c.loop-place.unit c.unsigned_abs.result c.common-unit.result c.loop-place.invariant is c.common-unit.ensures
