use Rattle.std.proofs.Common.{◌≡◌, ◌<◌, arith, length}
use Rattle.std.proofs.lemmas.Int.{ints}
use Rattle.std.proofs.lemmas.List.{get_or_read}
use Rattle.flow_solver.specs.Search.{distance_at}
use Rattle.flow_solver.proofs.Bounds.{over_small}
use Rattle.flow_solver.proofs.search.over.Goals as goal

pub overflow_add-result : goal.overflow_add-result
overflow_add-result c =
    let b : c.args.search.now.node < length c.args.search.now.distances.items = omega (arith, c.requires.search.distances_long, c.requires.search.node_in) in
    let distance : c.index.result.now ≡ distance_at c.args.search.now.distances.items c.args.search.now.node = get_or_read _ _ _ b c.index.ensures 0 in
    let small = over_small c.args.state.now _ _ _ _ _ _ _ c.requires.search c.args.link.step.arc c.args.link.step.forward c.requires.link.arc c.requires.starts in
    let e = c.requires.reduced in
    omega (arith, ints, small, e, distance)

pub returns : goal.returns
returns c =
    let b : c.args.search.now.node < length c.args.search.now.distances.items = omega (arith, c.requires.search.distances_long, c.requires.search.node_in) in
    let distance : c.index.result.now ≡ distance_at c.args.search.now.distances.items c.args.search.now.node = get_or_read _ _ _ b c.index.ensures 0 in
    let e = c.requires.reduced in
    omega (arith, ints, e, distance)
