use Rattle.std.proofs.Common.{◌≡◌, ◌+◌, ◌<◌, ◌≤◌, length, ap, ◌∙◌, arith, inl, inr}
use Rattle.std.specs.Prelude.{slice_index}
use Rattle.std.proofs.lemmas.Bool.{cases_lt}
use Rattle.std.proofs.lemmas.List.{get_or_read}
use Rattle.residual_arcs.specs.Links.{link_at, no_link}
use Rattle.unit_turns.specs.declared.side.Reach.{Reach}
use Rattle.unit_turns.specs.Side.{reach_at, no_reach}
use Rattle.unit_turns.proofs.Growing.{IsGrown-then, scanned_from_links}
use Rattle.unit_turns.proofs.scanning.scan.Goals as goal
use Rattle.unit_turns.proofs.scanning.scan.Goals.{After-index-in-loop-place, In_ok-found}

-- the node that is scanned, and the two ends of its links
node_is : (c : After-index-in-loop-place) → c.index.result.now.node ≡ (reach_at c.args.side.now c.args.from).node
node_is c = ap (λ (r : Reach). r.node) (get_or_read _ _ _ c.requires.from c.index.ensures no_reach)

node_in : (c : After-index-in-loop-place) → (reach_at c.args.side.now c.args.from).node < c.args.net.now.nodes
node_in c = c.requires.side.numbered.nodes c.args.from c.requires.from

end_is : (c : After-index-in-loop-place) → c.index-place-end.result.now ≡ slice_index c.args.links.now.starts.items ((reach_at c.args.side.now c.args.from).node + 1)
end_is c =
    let b : c.index.result.now.node + 1 < length c.args.links.now.starts.items = omega (arith, c.requires.links.starts_long, node_in c, node_is c) in
    get_or_read _ _ _ b c.index-place-end.ensures 0 ∙ ap (λ v. slice_index c.args.links.now.starts.items (v + 1)) (node_is c)

link_in : (c : After-index-in-loop-place) → c.loop-place.place < length c.args.links.now.all.items
link_in c = omega (arith, c.loop-place-test.true, end_is c, c.requires.links.within ((reach_at c.args.side.now c.args.from).node + 1))

link_is : (c : After-index-in-loop-place) → c.index-in-loop-place.result.now ≡ link_at c.args.links.now.all.items c.loop-place.place
link_is c = get_or_read _ _ _ (link_in c) c.index-in-loop-place.ensures no_link

pub follow-requires-clause-ends : goal.follow-requires-clause-ends
follow-requires-clause-ends c0 =
    let c : After-index-in-loop-place = (goal.at.follow-requires-clause-ends c0).After-index-in-loop-place in
    rw (link_is c) (c0.requires.links.ends c0.loop-place.place (link_in c))

pub returns-in_err-found-clause-grown : goal.returns-in_err-found-clause-grown
returns-in_err-found-clause-grown c = IsGrown-then c.args.side.now c.loop-place.side c.follow.new.side c.loop-place.invariant.grown c.follow.ensures.grown

pub returns-in-Some-clause-grown : goal.returns-in-Some-clause-grown
returns-in-Some-clause-grown c = IsGrown-then c.args.side.now c.loop-place.side c.follow.new.side c.loop-place.invariant.grown c.follow.ensures.grown

pub loop-place-preserved : goal.loop-place-preserved
loop-place-preserved c0 =
    let c : After-index-in-loop-place = (goal.at.loop-place-preserved c0).After-index-in-loop-place in
    let was = c0.loop-place.invariant in
    let done = c0.in_ok-found.ensures in
    let here = rw (c0.in_default.is, link_is c) at done.followed in
    record {
      tree = done.side;
      grown = IsGrown-then c0.args.side.now c0.loop-place.side c0.follow.new.side was.grown done.grown;
      apart = done.apart;
      followed = λ i from below passes. elim (cases_lt i c0.loop-place.place) [
        | inl before ↦ done.grown.reached (link_at c0.args.links.now.all.items i).to (was.followed i from before passes)
        | inr past ↦
            let e : i ≡ c0.loop-place.place = omega (arith, past, below) in
            rw e (here (rw e at passes))
      ];
    }

pub returns-clause-scanned : goal.returns-clause-scanned
returns-clause-scanned c =
    let net = c.args.net.now in
    let starts = c.args.links.now.starts.items in
    let node = (reach_at c.args.side.now c.args.from).node in
    let in_nodes : node < net.nodes = c.requires.side.numbered.nodes c.args.from c.requires.from in
    let same : c.index.result.now.node ≡ node = ap (λ (r : Reach). r.node) (get_or_read _ _ _ c.requires.from c.index.ensures no_reach) in
    let b : c.index.result.now.node + 1 < length starts = omega (arith, c.requires.links.starts_long, in_nodes, same) in
    let end : c.index-place-end.result.now ≡ slice_index starts (node + 1) = get_or_read _ _ _ b c.index-place-end.ensures 0 ∙ ap (λ v. slice_index starts (v + 1)) same in
    let last : slice_index starts (node + 1) ≤ c.loop-place.place = omega (arith, end, c.loop-place-test.false) in
    scanned_from_links net c.args.flow.now c.args.aim c.loop-place.side c.args.links.now node c.requires.round c.requires.links (λ i from to. c.loop-place.invariant.followed i from (omega (arith, to, last)))
