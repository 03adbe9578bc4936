use Rattle.std.proofs.Common.{◌≡◌, ◌<◌, arith, length}
use Rattle.std.specs.Prelude.{ℤ, pos, FitsSigned}
use Rattle.std.specs.Int.{w64}
use Rattle.std.proofs.lemmas.Int.{ints, to_z-of_z}
use Rattle.std.proofs.lemmas.List.{get_or_read}
use Rattle.bounded_network.specs.Network.{potential_at}
use Rattle.flow_solver.specs.State.{IsWithin, most_cost}
use Rattle.flow_solver.proofs.Updates.{within_fits}
use Rattle.flow_solver.proofs.Bounds.{potential_within}
use Rattle.flow_solver.proofs.Following.{within_link, link_reduced}
use Rattle.flow_solver.proofs.search.reduced_over.Goals as goal
use Rattle.flow_solver.proofs.search.reduced_over.Goals.{After-index-to}

pub index-to-requires : goal.index-to-requires
index-to-requires c =
    omega (arith, (within_link c.args.state.now.network.now c.args.link c.args.state.now.good c.requires.link).to, c.args.state.now.kept.potentials_long, c.args.state.now.potentials.ok.0)

cost_fits : (cost : ℤ) → IsWithin most_cost cost → FitsSigned w64 cost
cost_fits cost small = within_fits cost record { low = omega (arith, ints, small.low); high = omega (arith, ints, small.high) }

from_is : (c : After-index-to) → c.index-from.result.now ≡ potential_at c.args.state.now.potentials.items c.args.search.now.node
from_is c =
    let b : c.args.search.now.node < length c.args.state.now.potentials.items = omega (arith, c.args.state.now.kept.potentials_long, c.requires.node_in) in
    get_or_read _ _ _ b c.index-from.ensures (pos 0)

to_is : (c : After-index-to) → c.index-to.result.now ≡ potential_at c.args.state.now.potentials.items c.args.link.to
to_is c =
    let inside = (within_link c.args.state.now.network.now c.args.link c.args.state.now.good c.requires.link).to in
    let b : c.args.link.to < length c.args.state.now.potentials.items = omega (arith, inside, c.args.state.now.kept.potentials_long) in
    get_or_read _ _ _ b c.index-to.ensures (pos 0)

pub reduced-requires-clause-cost_small : goal.reduced-requires-clause-cost_small
reduced-requires-clause-cost_small c =
    let small = (within_link c.args.state.now.network.now c.args.link c.args.state.now.good c.requires.link).cost in
    rw (to_z-of_z w64 c.args.link.cost (cost_fits c.args.link.cost small)) small

pub reduced-requires-clause-from_small : goal.reduced-requires-clause-from_small
reduced-requires-clause-from_small c =
    let before : After-index-to = (goal.at.reduced-requires-clause-from_small c).After-index-to in
    let small = potential_within c.args.state.now c.args.search.now.node in
    let e = from_is before in
    record { low = omega (arith, ints, small.low, e); high = omega (arith, ints, small.high, e) }

pub reduced-requires-clause-to_small : goal.reduced-requires-clause-to_small
reduced-requires-clause-to_small c =
    let before : After-index-to = (goal.at.reduced-requires-clause-to_small c).After-index-to in
    let small = potential_within c.args.state.now c.args.link.to in
    let e = to_is before in
    record { low = omega (arith, ints, small.low, e); high = omega (arith, ints, small.high, e) }

pub returns : goal.returns
returns c =
    let before : After-index-to = (goal.at.returns c).After-index-to in
    let e = link_reduced c.args.state.now.network.now c.args.link c.args.state.now.potentials.items c.args.search.now.node c.index-from.result.now c.index-to.result.now c.requires.link c.requires.starts (from_is before) (to_is before) in
    let small = (within_link c.args.state.now.network.now c.args.link c.args.state.now.good c.requires.link).cost in
    let done = rw (to_z-of_z w64 c.args.link.cost (cost_fits c.args.link.cost small)) at c.reduced.ensures in
    omega (arith, ints, done, e)
