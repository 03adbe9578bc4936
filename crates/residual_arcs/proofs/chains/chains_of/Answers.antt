use Rattle.std.proofs.Common.{◌≡◌, arith, length, ◌<◌}
use Rattle.std.specs.Prelude.{slice_index}
use Rattle.std.proofs.lemmas.List.{get_or_read}
use Rattle.residual_arcs.proofs.Chaining.{AreChainsTo-more}
use Rattle.residual_arcs.proofs.chains.chains_of.Goals as goal

pub loop-place-preserved : goal.loop-place-preserved
loop-place-preserved c =
    let net = c.args.net.now in
    let i = c.loop-place.place in
    let last = c.loop-place.last.items in
    let good = c.arc_of-arc.ensures.kept in
    let i_in : i < length net.arcs = omega arith in
    let long = c.loop-place.invariant.last_long in
    let tail_in : c.arc_of-arc.result.tail < length last = omega (arith, c.arc_of-arc.ensures.within.tail, long) in
    let head_in : c.arc_of-arc.result.head < length last = omega (arith, c.arc_of-arc.ensures.within.head, long) in
    let tail : c.index.result.now ≡ slice_index last c.arc_of-arc.result.tail = get_or_read _ _ _ tail_in c.index.ensures 0 in
    let head : c.index-in-loop-place.result.now ≡ slice_index last c.arc_of-arc.result.head = get_or_read _ _ _ head_in c.index-in-loop-place.ensures 0 in
    rw (c.in_ok-push.ensures.items, c.in_ok-push-2.ensures.items, tail, head, c.arc_of-arc.ensures.value) (AreChainsTo-more net i last c.loop-place.before_tail.items c.loop-place.before_head.items good i_in c.loop-place.invariant)
