use Rattle.std.proofs.Common.{◌≡◌, arith, take, drop, length, ◌++◌}
use Rattle.std.proofs.lemmas.Grind.{common_steps}
use Rattle.flow_solver.proofs.Starts.{AreExcessesTo-within, AreExcessesTo-more}
use Rattle.flow_solver.proofs.start.first_excess.Goals as goal

pub shift-requires-clause-within : goal.shift-requires-clause-within
shift-requires-clause-within c =
    let good = c.arc_of-arc.ensures.kept in
    rw c.deref_mut.ensures.value (AreExcessesTo-within c.args.net.now c.args.flow.now c.loop-place.place c.loop-place.excess.items good (omega arith) (λ a b. omega (arith, c.requires.rooms a b, (good.each a b).room)) c.loop-place.invariant)

pub loop-place-preserved : goal.loop-place-preserved
loop-place-preserved c =
    let all : take c.loop-place.excess.len (c.shift.new.excess ++ drop (length c.shift.new.excess) c.loop-place.excess.items) ≡ c.shift.new.excess = grind (arith, common_steps) in
    let shifted = rw (c.deref_mut.ensures.value, c.arc_of-arc.ensures.value) at c.shift.ensures.shifted in
    let long : length c.shift.new.excess ≡ length c.loop-place.excess.items = rw c.deref_mut.ensures.value at c.shift.ensures.long in
    rw all (AreExcessesTo-more c.args.net.now c.args.flow.now c.loop-place.place c.loop-place.excess.items c.shift.new.excess c.loop-place.invariant long shifted)
