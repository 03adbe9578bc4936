use Rattle.std.proofs.Common.{◌≡◌, ◌<◌, take, drop, length, ◌++◌, arith, refl}
use Rattle.std.specs.BinaryHeap.{heap_items}
use Rattle.std.proofs.lemmas.List.{get_or_read}
use Rattle.std.proofs.lemmas.Int.{ints}
use Rattle.std.proofs.lemmas.Grind.{common_steps}
use Rattle.flow_solver.specs.Search.{distance_at}
use Rattle.flow_solver.specs.State.{AreUpdated}
use Rattle.flow_solver.proofs.Bounds.{settled_small, potential_within}
use Rattle.flow_solver.proofs.Updating.{AreUpdated-from_tree, IsState-updated, AreCalm-updated, IsPath-updated}
use Rattle.flow_solver.proofs.path.update_potentials.Goals as goal
use Rattle.flow_solver.proofs.path.update_potentials.Goals.{After-update_tree}

all : (c : After-update_tree) → take c.args.state.now.potentials.len (c.update_tree.new.potentials ++ drop (length c.update_tree.new.potentials) c.args.state.now.potentials.items) ≡ c.update_tree.new.potentials
all c = grind (arith, common_steps)

updated : (c : After-update_tree) → AreUpdated c.args.state.now.potentials.items c.update_tree.new.potentials c.args.search.now.distances.items (distance_at c.args.search.now.distances.items c.args.search.now.node)
updated c =
    let search = c.requires.found.search_kept in
    let b : c.args.search.now.node < length c.args.search.now.distances.items = omega (arith, search.node_in, search.distances_long) in
    let depth : c.index-depth.result.now ≡ distance_at c.args.search.now.distances.items c.args.search.now.node = get_or_read _ _ _ b c.index-depth.ensures 0 in
    let on_tree = rw (c.deref_mut.ensures.value, c.deref.ensures.value, c.deref-2.ensures.value, depth) at c.update_tree.ensures.updated in
    let rest = rw (c.deref_mut.ensures.value, c.deref-2.ensures.value) at c.update_tree.ensures.rest in
    let long = rw c.deref_mut.ensures.value at c.update_tree.ensures.long in
    AreUpdated-from_tree c.args.state.now c.args.search.now.source c.args.search.now.node c.args.search.now.tree.items c.args.search.now.reaches.items c.args.search.now.distances.items c.args.search.now.settled.items (heap_items c.args.search.now.queue.waiting)
    search c.args.state.now.kept.potentials_long c.update_tree.new.potentials long on_tree rest

pub update_tree-requires-clause-small : goal.update_tree-requires-clause-small
update_tree-requires-clause-small c = λ v.
    let small = potential_within c.args.state.now v in
    rw c.deref_mut.ensures.value (record { low = omega (arith, ints, small.low); high = omega (arith, ints, small.high) })

pub update_tree-requires-clause-shallow : goal.update_tree-requires-clause-shallow
update_tree-requires-clause-shallow c =
    let search = c.requires.found.search_kept in
    let b : c.args.search.now.node < length c.args.search.now.distances.items = omega (arith, search.node_in, search.distances_long) in
    let depth : c.index-depth.result.now ≡ distance_at c.args.search.now.distances.items c.args.search.now.node = get_or_read _ _ _ b c.index-depth.ensures 0 in
    let small = settled_small c.args.state.now c.args.search.now.source c.args.search.now.tree.items c.args.search.now.distances.items c.args.search.now.settled.items search.is_tree c.args.search.now.node search.node_settled in
    omega (arith, depth, small)

pub invariant_of-state-clause-kept : goal.invariant_of-state-clause-kept
invariant_of-state-clause-kept c0 =
    let c : After-update_tree = (goal.at.invariant_of-state-clause-kept c0).After-update_tree in
    rw (all c) (IsState-updated c.args.state.now c.args.search.now.source c.args.search.now.node c.args.search.now.tree.items c.args.search.now.reaches.items c.args.search.now.distances.items c.args.search.now.settled.items (heap_items c.args.search.now.queue.waiting) c.requires.found.search_kept c.requires.found.deficit c.requires.calm c.update_tree.new.potentials (updated c))

pub returns-clause-calm : goal.returns-clause-calm
returns-clause-calm c0 =
    let c : After-update_tree = (goal.at.returns-clause-calm c0).After-update_tree in
    rw (all c) (AreCalm-updated c.args.state.now c.args.search.now.source c.args.search.now.node c.args.search.now.tree.items c.args.search.now.reaches.items c.args.search.now.distances.items c.args.search.now.settled.items (heap_items c.args.search.now.queue.waiting) c.requires.found.search_kept c.requires.found.deficit c.requires.calm c.update_tree.new.potentials (updated c))

pub returns-clause-path : goal.returns-clause-path
returns-clause-path c0 = λ amount wide.
    let c : After-update_tree = (goal.at.returns-clause-path c0).After-update_tree in
    IsPath-updated c.args.state.now c.args.search.now.source c.args.search.now.node c.args.search.now.tree.items c.args.search.now.reaches.items c.args.search.now.distances.items c.args.search.now.settled.items (heap_items c.args.search.now.queue.waiting) c.requires.found.search_kept c.requires.found.deficit c.requires.calm c.update_tree.new.potentials (updated c) amount _ refl refl (all c) wide
