use Rattle.std.proofs.Common.{◌≡◌, ◌<◌, ◌+◌, length, arith, ◌∙◌}
use Rattle.std.specs.Prelude.{pos}
use Rattle.std.specs.BinaryHeap.{heap_items}
use Rattle.std.proofs.lemmas.Int.{ints}
use Rattle.std.proofs.lemmas.List.{get_or_read, length_push}
use Rattle.flow_solver.specs.State.{excess_at}
use Rattle.flow_solver.specs.Search.{IsSearch}
use Rattle.flow_solver.proofs.Settling.{tree_short}
use Rattle.flow_solver.proofs.Runs.{IsSearchOf-next, IsClosed-from_search}
use Rattle.flow_solver.proofs.search.run.Goals as goal
use Rattle.flow_solver.proofs.search.run.Goals.{In-Some, In_ok-settle}

pub nearest-requires : goal.nearest-requires
nearest-requires c = λ d v waits.
    let search = c.loop-node.invariant.search in
    rw c.deref.ensures.value (omega (arith, (search.queued d v waits).0, search.is_tree.settled_long))

node_in : (c : In-Some) → c.in-Some.node < c.args.state.now.network.now.nodes
node_in c = (c.loop-node.invariant.search.queued c.in-Some.field-0-0 c.in-Some.node c.in-Some.ensures.waited).0

pub settle-requires-clause-settled_in : goal.settle-requires-clause-settled_in
settle-requires-clause-settled_in c =
    omega (arith, node_in (goal.at.settle-requires-clause-settled_in c).In-Some, c.loop-node.invariant.search.is_tree.settled_long)

pub settle-requires-clause-reaches_in : goal.settle-requires-clause-reaches_in
settle-requires-clause-reaches_in c =
    omega (arith, node_in (goal.at.settle-requires-clause-reaches_in c).In-Some, c.loop-node.invariant.search.reaches_long)

pub index-requires : goal.index-requires
index-requires c =
    omega (arith, node_in (goal.at.index-requires c).In-Some, c.args.state.now.kept.excess_long, c.args.state.now.excess.ok.0)

next : (c : In_ok-settle) → IsSearch c.args.state.now c.settle.new.search
next c =
    let done = c.in_ok-settle.ensures in
    let was = c.loop-node.invariant in
    let near = c.in-Some.ensures in
    let value = c.deref.ensures.value in
    rw (done.source, done.node, done.tree, done.settled, done.reaches, done.distances, done.queue)
    (IsSearchOf-next c.args.state.now c.loop-node.search.source c.loop-node.search.node c.loop-node.search.tree.items c.loop-node.search.reaches.items c.loop-node.search.distances.items c.loop-node.search.settled.items
    (heap_items c.loop-node.search.queue.waiting) (heap_items c.nearest.new.queue.waiting) was.search was.relaxed was.calm
    c.in-Some.field-0-0 c.in-Some.node near.waited (rw value at near.unsettled) near.only (rw value at near.kept) (rw value at near.nearest))

pub returns-then-index-lt0-clause-found : goal.returns-then-index-lt0-clause-found
returns-then-index-lt0-clause-found c =
    let before : In_ok-settle = (goal.at.returns-then-index-lt0-clause-found c).In_ok-settle in
    let b : c.in-Some.node < length c.args.state.now.excess.items = omega (arith, node_in (goal.at.returns-then-index-lt0-clause-found c).In-Some, c.args.state.now.kept.excess_long) in
    let e : c.index.result.now ≡ excess_at c.args.state.now.excess.items c.in-Some.node = get_or_read _ _ _ b c.index.ensures (pos 0) in
    record {
      search_kept = next before;
      deficit = rw c.in_ok-settle.ensures.node (omega (arith, ints, e, c.if-index-lt0.true));
    }

pub relax_all-requires-in-Some-clause-search : goal.relax_all-requires-in-Some-clause-search
relax_all-requires-in-Some-clause-search c = next (goal.at.relax_all-requires-in-Some-clause-search c).In_ok-settle

pub loop-node-smaller : goal.loop-node-smaller
loop-node-smaller c =
    let before : In_ok-settle = (goal.at.loop-node-smaller c).In_ok-settle in
    let short = tree_short _ _ _ _ _ (next before).is_tree in
    let same = c.in_ok-relax_all-2.ensures.same.tree in
    let longer : length c.settle.new.search.tree.items ≡ length c.loop-node.search.tree.items + 1 = rw c.in_ok-settle.ensures.tree (length_push c.loop-node.search.tree.items _) in
    rw same (omega (arith, short, longer))

pub loop-node-preserved : goal.loop-node-preserved
loop-node-preserved c =
    let done = c.in_ok-relax_all-2.ensures in
    let b : c.in-Some.node < length c.args.state.now.excess.items = omega (arith, node_in (goal.at.loop-node-preserved c).In-Some, c.args.state.now.kept.excess_long) in
    let e : c.index.result.now ≡ excess_at c.args.state.now.excess.items c.in-Some.node = get_or_read _ _ _ b c.index.ensures (pos 0) in
    record {
      source = done.same.source ∙ c.in_ok-settle.ensures.source ∙ c.loop-node.invariant.source;
      search = done.search;
      relaxed = rw done.same.node done.relaxed;
      calm = rw (done.same.node, c.in_ok-settle.ensures.node) (omega (arith, ints, e, c.if-index-lt0.false));
    }

pub returns-clause-closed : goal.returns-clause-closed
returns-clause-closed c =
    let was = c.loop-node.invariant in
    IsClosed-from_search c.args.state.now c.loop-node.search.source c.loop-node.search.node c.loop-node.search.tree.items c.loop-node.search.reaches.items c.loop-node.search.distances.items c.loop-node.search.settled.items
    (heap_items c.loop-node.search.queue.waiting) was.search was.relaxed was.calm (rw c.deref.ensures.value at c.in_default.ensures.none)
