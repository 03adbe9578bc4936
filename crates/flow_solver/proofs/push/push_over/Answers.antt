use Rattle.std.proofs.Common.{◌≡◌, ◌<◌, ◌⊎◌, ◌∙◌, arith, length, ap, inl, inr}
use Rattle.std.specs.Prelude.{pos, ◌≤ℤ◌}
use Rattle.std.proofs.lemmas.Int.{ints}
use Rattle.std.proofs.lemmas.List.{get_or_read}
use Rattle.bounded_network.specs.Network.{arc_at}
use Rattle.flow_solver.specs.State.{excess_at}
use Rattle.residual_arcs.specs.Step.{start_of}
use Rattle.residual_arcs.proofs.Steps.{start_in}
use Rattle.flow_solver.proofs.Pushes.{calm_pushed}
use Rattle.flow_solver.proofs.push.push_over.Goals as goal

pub returns-clause-calm : goal.returns-clause-calm
returns-clause-calm c =
    let net = c.args.state.now.network.now in
    let state = c.args.state.now in
    let e : c.start.result ≡ start_of (arc_at net c.args.step.arc) c.args.step.forward = rw c.arc_of-arc.ensures.value at c.start.ensures in
    let inside = start_in net.nodes (arc_at net c.args.step.arc) c.args.step.forward (c.args.state.now.good.each c.args.step.arc c.requires.arc_in) in
    let b : c.start.result < length state.excess.items = omega (arith, e, inside, c.args.state.now.kept.excess_long) in
    let had : c.index.result.now ≡ excess_at state.excess.items (start_of (arc_at net c.args.step.arc) c.args.step.forward) =
    get_or_read _ _ _ b c.index.ensures (pos 0) ∙ ap (excess_at state.excess.items) e in
    let enough : (c.min-amount.result ≡ 0) ⊎ (pos c.min-amount.result ≤ℤ excess_at state.excess.items (start_of (arc_at net c.args.step.arc) c.args.step.forward)) = elim c.amount_of-has.ensures [
      | inl none ↦ inl (omega (arith, none, c.min-amount.ensures))
      | inr some ↦ inr (omega (arith, ints, some, had, c.min-amount.ensures))
    ] in
    rw (c.carry.ensures.network, c.carry.ensures.potentials)
    (calm_pushed net state.excess.items c.carry.new.state.excess.items state.potentials.items (start_of (arc_at net c.args.step.arc) c.args.step.forward) _ c.min-amount.result c.requires.calm c.carry.ensures.shifted enough)
