use Rattle.std.proofs.Common.{◌≡◌, ◌<◌, length, arith, rules, sym}
use Rattle.std.proofs.lemmas.List.{get_or_read}
use Rattle.bounded_network.specs.Network.{arc_at}
use Rattle.residual_arcs.proofs.Steps.{end_in}
use Rattle.unit_turns.specs.declared.side.Reach.{Reach}
use Rattle.unit_turns.specs.Side.{place_of, IsOpen}
use Rattle.unit_turns.proofs.Growing.{side_short, IsSide-equal, IsSide-added}
use Rattle.unit_turns.proofs.scanning.follow.Goals as goal

pub add-requires-clause-few : goal.add-requires-clause-few
add-requires-clause-few c =
    omega (arith, side_short c.args.net.now c.args.side.now c.requires.side.numbered, c.arc_of-arc.ensures.kept.few_nodes)

pub returns-in_err-add-clause-side : goal.returns-in_err-add-clause-side
returns-in_err-add-clause-side c =
    IsSide-equal c.args.side.now c.add.new.side c.in_err-add.ensures.same_reaches c.in_err-add.ensures.same_places c.args.net.now c.args.flow.now c.args.aim c.requires.side

pub returns-in_ok-add-clause-side : goal.returns-in_ok-add-clause-side
returns-in_ok-add-clause-side c =
    let net = c.args.net.now in
    let link = c.args.link in
    let side = c.args.side.now in
    let reach : Reach = record { node = link.to; from = c.args.from; step = link.step } in
    let to_in : link.to < net.nodes = rw c.requires.ends (end_in net.nodes (arc_at net link.step.arc) link.step.forward (c.arc_of-arc.ensures.kept.each link.step.arc c.requires.arc)) in
    let in_places : link.to < length side.places.items = omega (arith, to_in, c.requires.side.numbered.long) in
    let read : c.index.result.now ≡ place_of side link.to = get_or_read _ _ _ in_places c.index.ensures 0 in
    let unplaced : place_of side link.to ≡ 0 = omega (arith, read, c.if-index-eq0.true) in
    let passes : IsOpen net c.args.flow.now c.args.aim link.step.arc link.step.forward = search rules in
    IsSide-added net c.args.flow.now c.args.aim side c.add.new.side reach c.requires.side to_in unplaced c.in_ok-add.ensures.reaches c.in_ok-add.ensures.places
    c.requires.from c.requires.arc c.requires.starts (sym c.requires.ends) passes
