use Rattle.std.proofs.Common.{◌≡◌, arith, take, drop, length, ◌++◌, ◌<◌}
use Rattle.std.specs.Prelude.{slice_index}
use Rattle.std.proofs.lemmas.List.{get_or_read}
use Rattle.std.proofs.lemmas.Grind.{common_steps}
use Rattle.bounded_network.specs.Network.{arc_at}
use Rattle.residual_arcs.specs.Step.{start_of, end_of}
use Rattle.flow_solver.specs.State.{IsShifted}
use Rattle.flow_solver.proofs.States.{IsState-carry, excess_within}
use Rattle.flow_solver.proofs.state.carry.Goals as goal
use Rattle.flow_solver.proofs.state.carry.Goals.{After-shift}

pub shift-requires-clause-within : goal.shift-requires-clause-within
shift-requires-clause-within c =
    rw c.deref_mut.ensures.value (excess_within c.args.state.now.network.now _ _ _ c.args.state.now.good c.args.state.now.kept)

all : (c : After-shift) → take c.args.state.now.excess.len (c.shift.new.excess ++ drop (length c.shift.new.excess) c.args.state.now.excess.items) ≡ c.shift.new.excess
all c = grind (arith, common_steps)

shifted : (c : After-shift) → IsShifted c.args.state.now.excess.items c.shift.new.excess (start_of (arc_at c.args.state.now.network.now c.args.step.arc) c.args.step.forward) (end_of (arc_at c.args.state.now.network.now c.args.step.arc) c.args.step.forward) c.args.amount
shifted c = rw (c.deref_mut.ensures.value, c.start.ensures, c.end.ensures, c.arc_of-arc.ensures.value) at c.shift.ensures.shifted

pub invariant_of-state-clause-kept : goal.invariant_of-state-clause-kept
invariant_of-state-clause-kept c0 =
    let c : After-shift = (goal.at.invariant_of-state-clause-kept c0).After-shift in
    let state = c.args.state.now in
    let in_flow : c.args.step.arc < length state.flow.items = omega (arith, state.kept.flow_long, c.requires.arc_in) in
    let had : c.index-had.result.now ≡ slice_index state.flow.items c.args.step.arc = get_or_read _ _ _ in_flow c.index-had.ensures 0 in
    let long : length c.shift.new.excess ≡ length state.excess.items = rw c.deref_mut.ensures.value at c.shift.ensures.long in
    rw (all c, c.carry_on.ensures, had) (IsState-carry state.network.now state.flow.items state.excess.items state.potentials.items c.args.step.arc c.args.step.forward c.args.amount c.shift.new.excess state.good state.kept c.requires.arc_in c.requires.fits c.requires.tight long (shifted c))

pub returns-clause-shifted : goal.returns-clause-shifted
returns-clause-shifted c0 =
    let c : After-shift = (goal.at.returns-clause-shifted c0).After-shift in
    rw (all c) (shifted c)
