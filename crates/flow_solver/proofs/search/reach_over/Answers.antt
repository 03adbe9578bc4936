use Rattle.std.proofs.Common.{◌≡◌, ◌<◌, ◌-◌, arith, length, ap}
use Rattle.std.specs.BinaryHeap.{heap_items}
use Rattle.std.proofs.lemmas.List.{get_or_read}
use Rattle.std.proofs.lemmas.Int.{ints}
use Rattle.flow_solver.specs.Search.{IsSearch, distance_at}
use Rattle.flow_solver.proofs.Bounds.{width_some}
use Rattle.flow_solver.proofs.Following.{within_link}
use Rattle.flow_solver.proofs.Settling.{tree_short}
use Rattle.flow_solver.proofs.Searches.{IsLowered, IsLowered-le}
use Rattle.flow_solver.proofs.Relaxing.{IsSearchOf-relax, to_lowered, node_apart}
use Rattle.flow_solver.proofs.search.reach_over.Goals as goal
use Rattle.flow_solver.proofs.search.reach_over.Goals.{In_ok-note}

pub index-requires : goal.index-requires
index-requires c =
    omega (arith, (within_link c.args.state.now.network.now c.args.link c.args.state.now.good c.requires.link).to, c.requires.search.distances_long, c.args.search.now.distances.ok.0)

pub by-reach-requires-clause-few : goal.by-reach-requires-clause-few
by-reach-requires-clause-few c =
    omega (arith, tree_short _ _ _ _ _ c.requires.search.is_tree, c.args.state.now.good.few_nodes)

lower : (c : In_ok-note) → c.args.distance < distance_at c.args.search.now.distances.items c.args.link.to
lower c =
    let inside = (within_link c.args.state.now.network.now c.args.link c.args.state.now.good c.requires.link).to in
    let b : c.args.link.to < length c.args.search.now.distances.items = omega (arith, inside, c.requires.search.distances_long) in
    let e : c.index.result.now ≡ distance_at c.args.search.now.distances.items c.args.link.to = get_or_read _ _ _ b c.index.ensures 0 in
    omega (arith, e, c.if-distance-index.false)

lowered : (c : In_ok-note) → IsLowered c.args.search.now.distances.items c.note.new.search.distances.items c.args.link.to c.args.distance
lowered c =
    rw c.in_ok-note.ensures.distances (to_lowered c.args.state.now c.args.search.now.source c.args.search.now.node c.args.search.now.tree.items c.args.search.now.reaches.items c.args.search.now.distances.items c.args.search.now.settled.items (heap_items c.args.search.now.queue.waiting) c.requires.search c.args.link.step c.requires.link.arc c.requires.starts (omega (arith, c.left_at-left.ensures, c.if-left-eq0.false)) c.args.link.to c.args.distance c.requires.link.ends c.requires.distance (lower c))

next : (c : In_ok-note) → IsSearch c.args.state.now c.note.new.search
next c =
    let same = c.in_ok-note.ensures.same in
    let is_tree = c.requires.search.is_tree in
    let last = width_some _ _ _ _ _ is_tree (length c.args.search.now.tree.items - 1) (omega (arith, is_tree.some)) in
    let some : 0 < c.by-reach.result.width = c.by-reach.ensures.width (omega (arith, c.if-left-eq0.false)) last in
    let width_left = rw c.left_at-left.ensures at c.by-reach.ensures.left in
    rw (same.source, same.node, same.tree, same.settled, c.in_ok-note.ensures.distances, c.in_ok-note.ensures.reaches)
    (IsSearchOf-relax c.args.state.now c.args.search.now.source c.args.search.now.node c.args.search.now.tree.items c.args.search.now.reaches.items c.args.search.now.distances.items c.args.search.now.settled.items (heap_items c.args.search.now.queue.waiting) c.requires.search c.args.link.step c.requires.link.arc c.requires.starts (omega (arith, c.left_at-left.ensures, c.if-left-eq0.false)) c.args.link.to c.args.distance c.requires.link.ends c.requires.distance (lower c)
    c.by-reach.result c.by-reach.ensures.node c.by-reach.ensures.from c.by-reach.ensures.step some width_left c.by-reach.ensures.narrow
    (heap_items c.note.new.search.queue.waiting) c.in_ok-note.ensures.added c.in_ok-note.ensures.kept c.in_ok-note.ensures.only)

stays : (c : In_ok-note) → distance_at c.note.new.search.distances.items c.args.search.now.node ≡ distance_at c.args.search.now.distances.items c.args.search.now.node
stays c =
    (lowered c).others c.args.search.now.node (node_apart c.args.state.now c.args.search.now.source c.args.search.now.node c.args.search.now.tree.items c.args.search.now.reaches.items c.args.search.now.distances.items c.args.search.now.settled.items (heap_items c.args.search.now.queue.waiting) c.requires.search c.args.link.step c.requires.link.arc c.requires.starts (omega (arith, c.left_at-left.ensures, c.if-left-eq0.false)) c.args.link.to c.args.distance c.requires.link.ends c.requires.distance (lower c))

pub returns-clause-relaxes : goal.returns-clause-relaxes
returns-clause-relaxes c0 =
    let c : In_ok-note = (goal.at.returns-clause-relaxes c0).In_ok-note in
    record { same = c.in_ok-note.ensures.same; search = next c; lower = IsLowered-le _ _ _ _ (lowered c); stays = stays c }

pub returns-clause-relaxed : goal.returns-clause-relaxed
returns-clause-relaxed c = λ starts some.
    let new = c.note.new.search.distances.items in
    let at = (lowered c).at in
    let there = ap (distance_at new) c.requires.link.ends in
    let stays = stays c in
    omega (arith, ints, at, there, stays, c.requires.distance)
