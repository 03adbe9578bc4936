use Rattle.std.proofs.Common.{◌≡◌, ◌<◌, arith, length}
use Rattle.std.specs.Prelude.{pos}
use Rattle.std.proofs.lemmas.Int.{ints}
use Rattle.std.proofs.lemmas.List.{get_or_read}
use Rattle.flow_solver.specs.State.{excess_at}
use Rattle.flow_solver.proofs.States.{excess_within}
use Rattle.flow_solver.proofs.blocking.most_between.Goals as goal

pub deficit_of-requires-clause-small : goal.deficit_of-requires-clause-small
deficit_of-requires-clause-small c =
    let b : c.args.node < length c.args.state.now.excess.items = omega (arith, c.args.state.now.kept.excess_long, c.requires.node_in) in
    let e : c.index-lacks.result.now ≡ excess_at c.args.state.now.excess.items c.args.node = get_or_read _ _ _ b c.index-lacks.ensures (pos 0) in
    let small = excess_within c.args.state.now.network.now _ _ _ c.args.state.now.good c.args.state.now.kept c.args.node in
    record { low = omega (arith, ints, e, small.low); high = omega (arith, ints, e, small.high) }
