use Rattle.std.proofs.Common.{◌≡◌, ◌<◌, arith, length, ap, ◌∙◌, refl}
use Rattle.std.specs.Prelude.{pos}
use Rattle.std.proofs.lemmas.Int.{ints}
use Rattle.std.proofs.lemmas.List.{get_or_read}
use Rattle.bounded_network.specs.Network.{arc_at, potential_at}
use Rattle.residual_arcs.specs.Step.{start_of, end_of}
use Rattle.residual_arcs.proofs.Steps.{end_in, start_in}
use Rattle.flow_solver.proofs.Bounds.{potential_within, step_reduced-parts}
use Rattle.flow_solver.proofs.push.is_tight.Goals as goal
use Rattle.flow_solver.proofs.push.is_tight.Goals.{After-cost}

from_is : (c : After-cost) → c.index-from.result.now ≡ potential_at c.args.state.now.potentials.items (start_of (arc_at c.args.state.now.network.now c.args.step.arc) c.args.step.forward)
from_is c =
    let net = c.args.state.now.network.now in
    let e : c.start.result ≡ start_of (arc_at net c.args.step.arc) c.args.step.forward = rw c.arc_of-arc.ensures.value at c.start.ensures in
    let inside = start_in net.nodes (arc_at net c.args.step.arc) c.args.step.forward (c.args.state.now.good.each c.args.step.arc c.requires.arc_in) in
    let b : c.start.result < length c.args.state.now.potentials.items = omega (arith, e, inside, c.args.state.now.kept.potentials_long) in
    get_or_read _ _ _ b c.index-from.ensures (pos 0) ∙ ap (potential_at c.args.state.now.potentials.items) e

to_is : (c : After-cost) → c.index-to.result.now ≡ potential_at c.args.state.now.potentials.items (end_of (arc_at c.args.state.now.network.now c.args.step.arc) c.args.step.forward)
to_is c =
    let net = c.args.state.now.network.now in
    let e : c.end.result ≡ end_of (arc_at net c.args.step.arc) c.args.step.forward = rw c.arc_of-arc.ensures.value at c.end.ensures in
    let inside = end_in net.nodes (arc_at net c.args.step.arc) c.args.step.forward (c.args.state.now.good.each c.args.step.arc c.requires.arc_in) in
    let b : c.end.result < length c.args.state.now.potentials.items = omega (arith, e, inside, c.args.state.now.kept.potentials_long) in
    get_or_read _ _ _ b c.index-to.ensures (pos 0) ∙ ap (potential_at c.args.state.now.potentials.items) e

pub cancels-requires-clause-from_small : goal.cancels-requires-clause-from_small
cancels-requires-clause-from_small c =
    let small = potential_within c.args.state.now (start_of (arc_at c.args.state.now.network.now c.args.step.arc) c.args.step.forward) in
    let e = from_is c in
    record { low = omega (arith, ints, small.low, e); high = omega (arith, ints, small.high, e) }

pub cancels-requires-clause-to_small : goal.cancels-requires-clause-to_small
cancels-requires-clause-to_small c =
    let small = potential_within c.args.state.now (end_of (arc_at c.args.state.now.network.now c.args.step.arc) c.args.step.forward) in
    let e = to_is c in
    record { low = omega (arith, ints, small.low, e); high = omega (arith, ints, small.high, e) }

pub returns : goal.returns
returns c =
    let before : After-cost = (goal.at.returns c).After-cost in
    let parts = step_reduced-parts (arc_at c.args.state.now.network.now c.args.step.arc) c.args.step.forward c.args.state.now.potentials.items (start_of (arc_at c.args.state.now.network.now c.args.step.arc) c.args.step.forward) c.cost.result c.index-from.result.now c.index-to.result.now refl (rw c.arc_of-arc.ensures.value at c.cost.ensures) (from_is before) (to_is before) in
    (λ even. omega (arith, ints, parts, c.cancels.ensures.0 even), λ tight. c.cancels.ensures.1 (omega (arith, ints, parts, tight)))
