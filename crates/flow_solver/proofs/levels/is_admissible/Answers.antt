use Rattle.std.proofs.Common.{◌≡◌, ◌<◌, arith, length}
use Rattle.std.specs.Prelude.{pos}
use Rattle.std.specs.Int.{w64}
use Rattle.std.proofs.lemmas.Int.{ints, to_z-of_z}
use Rattle.std.proofs.lemmas.List.{get_or_read}
use Rattle.bounded_network.specs.Network.{potential_at}
use Rattle.flow_solver.proofs.Updates.{within_fits}
use Rattle.flow_solver.proofs.Bounds.{potential_within}
use Rattle.flow_solver.proofs.levels.is_admissible.Goals as goal
use Rattle.flow_solver.proofs.levels.is_admissible.Goals.{After-index-to}

from_is : (c : After-index-to) → c.index-from.result.now ≡ potential_at c.args.state.now.potentials.items c.args.node
from_is c =
    let b : c.args.node < length c.args.state.now.potentials.items = omega (arith, c.args.state.now.kept.potentials_long, c.requires.node_in) in
    get_or_read _ _ _ b c.index-from.ensures (pos 0)

to_is : (c : After-index-to) → c.index-to.result.now ≡ potential_at c.args.state.now.potentials.items c.args.link.to
to_is c =
    let b : c.args.link.to < length c.args.state.now.potentials.items = omega (arith, c.requires.link.to, c.args.state.now.kept.potentials_long) in
    get_or_read _ _ _ b c.index-to.ensures (pos 0)

pub cancels-requires-clause-from_small : goal.cancels-requires-clause-from_small
cancels-requires-clause-from_small c =
    let before : After-index-to = (goal.at.cancels-requires-clause-from_small c).After-index-to in
    let small = potential_within c.args.state.now c.args.node in
    let e = from_is before in
    record { low = omega (arith, ints, small.low, e); high = omega (arith, ints, small.high, e) }

pub cancels-requires-clause-to_small : goal.cancels-requires-clause-to_small
cancels-requires-clause-to_small c =
    let before : After-index-to = (goal.at.cancels-requires-clause-to_small c).After-index-to in
    let small = potential_within c.args.state.now c.args.link.to in
    let e = to_is before in
    record { low = omega (arith, ints, small.low, e); high = omega (arith, ints, small.high, e) }

pub returns : goal.returns
returns c =
    let before : After-index-to = (goal.at.returns c).After-index-to in
    let small = c.requires.link.cost in
    let fits = within_fits c.args.link.cost (record { low = omega (arith, ints, small.low); high = omega (arith, ints, small.high) }) in
    let done = rw (to_z-of_z w64 c.args.link.cost fits) at c.cancels.ensures in
    (λ even. omega (arith, ints, done.0 even, from_is before, to_is before), λ none. done.1 (omega (arith, ints, none, from_is before, to_is before)))
