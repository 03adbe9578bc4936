use Rattle.std.proofs.Common.{rules, arith}
use Rattle.std.specs.Prelude.{FitsSigned}
use Rattle.std.specs.Int.{w128}
use Rattle.std.proofs.lemmas.Int.{ints, to_z-of_z}
use Rattle.flow_solver.proofs.Cuts.{IsBalanceTo-within, IsBalanceTo-more}
use Rattle.flow_solver.proofs.cut.is_violated.Goals as goal

pub with_arc-balance-requires-clause-small : goal.with_arc-balance-requires-clause-small
with_arc-balance-requires-clause-small c =
    let small = IsBalanceTo-within c.args.net.now c.args.marks.now c.loop-place.place _ c.arc_of-arc.ensures.kept (omega arith) c.loop-place.invariant in
    record { low = omega (arith, ints, small.low, c.loop-place.balance-is); high = omega (arith, ints, small.high, c.loop-place.balance-is) }

pub loop-place-preserved : goal.loop-place-preserved
loop-place-preserved c =
    let fits : FitsSigned w128 c.with_arc-balance.result = search rules in
    let step = rw c.arc_of-arc.ensures.value at c.with_arc-balance.ensures in
    rw (to_z-of_z w128 c.with_arc-balance.result fits)
    (IsBalanceTo-more c.args.net.now c.args.marks.now c.loop-place.place _ c.with_arc-balance.result c.loop-place.invariant (omega (arith, ints, step, c.loop-place.balance-is)))
