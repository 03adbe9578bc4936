use Rattle.std.proofs.Common.{◌≡◌, length, ap}
use Rattle.match_rules.specs.Rules.{RulesValue}
use Rattle.bounded_network.specs.Compile.{flow_of, node_count}
use Rattle.bounded_network.specs.Network.{NetworkValue}
use Rattle.solve_line.proofs.VerdictLaws.{within-costs}
use Rattle.solve_line.proofs.solving.solve_level.Goals as goal

pub unreachable-requires : goal.unreachable-requires
unreachable-requires c =
    let all : RulesValue = c.args.rules.now in
    let none = rw c.in-Unsat.is at c.in_ok-flow.ensures.none in
    let serves = rw c.sieve_of.ensures at c.in_ok-network.ensures.serves in
    c.requires.some (λ shares fit. none (flow_of all shares) (serves.all shares fit))

pub win-requires-clause-within : goal.win-requires-clause-within
win-requires-clause-within c =
    let net : NetworkValue = c.in_ok-network.network in
    let nodes : net.nodes ≡ node_count c.args.rules.now = ap (λ (n : NetworkValue). n.nodes) c.in_ok-network.ensures.value in
    let long : length c.in-Solved.potentials.items ≡ net.nodes = rw c.in-Solved.is at c.in_ok-flow.ensures.potentials in
    rw c.deref-in-Solved.ensures.value (within-costs c.args.rules.now net c.in-Solved.potentials.items nodes long (rw c.in-Solved.is at c.in_ok-flow.ensures.bounded))
