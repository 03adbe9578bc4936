use Rattle.std.proofs.Common.{◌≡◌, ◌≤◌, ◌<◌, ◌+◌, arith, length, sym, ap, ◌∙◌}
use Rattle.std.specs.Prelude.{slice_index}
use Rattle.std.proofs.lemmas.List.{get_or_read}
use Rattle.residual_arcs.specs.Links.{link_at, no_link, start_at}
use Rattle.flow_solver.specs.Search.{IsRelaxed}
use Rattle.flow_solver.proofs.Relaxing.{AreRelaxedTo-more, IsRelaxedFrom-links, SameTree-then}
use Rattle.flow_solver.proofs.search.relax_all.Goals as goal
use Rattle.flow_solver.proofs.search.relax_all.Goals.{After-index}

-- the two ends of the node's links
first_is : (c : After-index) → c.index-place.result.now ≡ slice_index c.args.links.now.starts.items c.args.search.now.node
first_is c =
    let b : c.args.search.now.node < length c.args.links.now.starts.items = omega (arith, c.requires.links.starts_long, c.requires.search.node_in) in
    get_or_read _ _ _ b c.index-place.ensures 0

end_is : (c : After-index) → c.index-place-end.result.now ≡ slice_index c.args.links.now.starts.items (c.args.search.now.node + 1)
end_is c =
    let b : c.args.search.now.node + 1 < length c.args.links.now.starts.items = omega (arith, c.requires.links.starts_long, c.requires.search.node_in) in
    get_or_read _ _ _ b c.index-place-end.ensures 0

link_is : (c : After-index) → c.index.result.now ≡ link_at c.args.links.now.all.items c.loop-place.place
link_is c =
    let b : c.loop-place.place < length c.args.links.now.all.items = omega (arith, c.loop-place-test.true, end_is c, c.requires.links.within (c.args.search.now.node + 1)) in
    get_or_read _ _ _ b c.index.ensures no_link

pub relax-requires-clause-starts : goal.relax-requires-clause-starts
relax-requires-clause-starts c =
    let before : After-index = (goal.at.relax-requires-clause-starts c).After-index in
    let from : slice_index c.args.links.now.starts.items c.args.search.now.node ≤ c.loop-place.place = omega (arith, first_is before, c.loop-place.auto.place) in
    let to : c.loop-place.place < slice_index c.args.links.now.starts.items (c.args.search.now.node + 1) = omega (arith, end_is before, c.loop-place-test.true) in
    let leaves = c.requires.links.leave c.args.search.now.node c.loop-place.place c.requires.search.node_in from to in
    ap (start_at c.args.state.now.network.now) (link_is before) ∙ leaves ∙ sym c.loop-place.invariant.same.node

pub loop-place-preserved : goal.loop-place-preserved
loop-place-preserved c =
    let before : After-index = (goal.at.loop-place-preserved c).After-index in
    let state = c.args.state.now in
    let was = c.loop-place.invariant in
    let done = c.in_ok-relax.ensures in
    let links = c.args.links.now.all.items in
    let node = c.loop-place.search.node in
    let first = slice_index c.args.links.now.starts.items node in
    let new = c.relax.new.search.distances.items in
    let here : IsRelaxed state new node (link_at links c.loop-place.place).step.arc (link_at links c.loop-place.place).step.forward = rw (link_is before) at done.relaxed in
    record {
      same = SameTree-then c.args.search.now c.loop-place.search c.relax.new.search was.same done.relaxes.same;
      search = done.relaxes.search;
      relaxed = rw done.relaxes.same.node (AreRelaxedTo-more state c.loop-place.search.distances.items new node links first c.loop-place.place done.relaxes.lower done.relaxes.stays here was.relaxed);
    }

pub returns-clause-relaxed : goal.returns-clause-relaxed
returns-clause-relaxed c =
    let state = c.args.state.now in
    let distances = c.loop-place.search.distances.items in
    let starts = c.args.links.now.starts.items in
    let node = c.args.search.now.node in
    let b : node + 1 < length starts = omega (arith, c.requires.links.starts_long, c.requires.search.node_in) in
    let end : c.index-place-end.result.now ≡ slice_index starts (node + 1) = get_or_read _ _ _ b c.index-place-end.ensures 0 in
    let last : slice_index starts (node + 1) ≤ c.loop-place.place = omega (arith, end, c.loop-place-test.false) in
    let all = rw c.loop-place.invariant.same.node at c.loop-place.invariant.relaxed in
    IsRelaxedFrom-links state distances node c.args.links.now c.requires.links (λ i from to. all i from (omega (arith, to, last)))
