use Rattle.std.proofs.Common.{◌≡◌, length, ap}
use Rattle.bounded_network.specs.Compile.{node_count}
use Rattle.bounded_network.specs.Network.{NetworkValue}
use Rattle.solver_tests.proofs.Potentials.{within-costs}
use Rattle.solver_tests.proofs.show.Goals as goal

pub prices_of-requires-clause-within : goal.prices_of-requires-clause-within
prices_of-requires-clause-within c =
    let net : NetworkValue = c.in_ok-net.net in
    let nodes : net.nodes ≡ node_count c.args.rules.now = ap (λ (n : NetworkValue). n.nodes) c.in_ok-net.ensures.value in
    let long : length c.in-Solved.potentials.items ≡ net.nodes = rw c.in-Solved.is at c.in_ok-flow.ensures.potentials in
    rw c.deref-in-Solved.ensures.value (within-costs c.args.rules.now net c.in-Solved.potentials.items nodes long (rw c.in-Solved.is at c.in_ok-flow.ensures.bounded))
