use Rattle.std.proofs.Common.{◌≡◌, ◌<◌, length, arith, refl}
use Rattle.std.specs.Prelude.{pos, ◌≤ℤ◌}
use Rattle.std.proofs.lemmas.Int.{ints}
use Rattle.std.proofs.lemmas.List.{get_or_read}
use Rattle.std.specs.BinaryHeap.{heap_items}
use Rattle.flow_solver.specs.State.{excess_at}
use Rattle.flow_solver.proofs.Runs.{IsSearchOf-begin}
use Rattle.flow_solver.proofs.blank.set_out.Goals as goal

pub returns-clause-search : goal.returns-clause-search
returns-clause-search c =
    let blank = c.requires.blank in
    let b : c.args.source < length c.args.state.now.excess.items = omega (arith, c.requires.source_in, c.args.state.now.kept.excess_long) in
    let e : c.index.result.now ≡ excess_at c.args.state.now.excess.items c.args.source = get_or_read _ _ _ b c.index.ensures (pos 0) in
    let within : pos c.width_of.result ≤ℤ excess_at c.args.state.now.excess.items c.args.source = omega (arith, ints, c.width_of.ensures.within, e) in
    rw (c.in_ok-push.ensures.items, blank.tree)
    (IsSearchOf-begin c.args.state.now c.args.source _ c.args.search.now.reaches.items c.args.search.now.distances.items c.args.search.now.settled.items (heap_items c.args.search.now.queue.waiting)
    c.requires.source_in refl c.width_of.ensures.some within blank.reaches_long blank.distances_long blank.settled_long blank.cleared blank.waiting)
