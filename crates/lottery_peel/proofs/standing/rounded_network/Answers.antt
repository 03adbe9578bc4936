use Rattle.std.proofs.Common.{ℕ, List}
use Rattle.match_rules.specs.Rules.{RulesValue}
use Rattle.bounded_network.specs.Compile.{Compiles, network_of}
use Rattle.bounded_network.specs.Network.{NetworkValue}
use Rattle.bounded_network.specs.Spans.{rounded_spans}
use Rattle.lottery_peel.proofs.NetLaws.{passes-network}
use Rattle.lottery_peel.proofs.StandingLaws.{rounded-network}
use Rattle.lottery_peel.proofs.standing.rounded_network.Goals as goal

pub returns-clause-passes : goal.returns-clause-passes
returns-clause-passes c =
    let all : RulesValue = c.args.rules.now in
    let shares : List ℕ = c.args.shares.now in
    let left : ℕ = c.tickets-left.result in
    let net : NetworkValue = network_of all (rounded_spans all shares left) in
    let means : Compiles all (rounded_spans all shares left) net = rw c.in_ok-net.ensures.value at c.in_ok-net.ensures.means in
    rw c.in_ok-net.ensures.value (passes-network all (rounded_spans all shares left) c.tickets-left.ensures.kept means)

pub returns-clause-rounds : goal.returns-clause-rounds
returns-clause-rounds c =
    let all : RulesValue = c.args.rules.now in
    rw (c.in_ok-net.ensures.value, c.tickets-left.ensures.value) (rounded-network all c.args.shares.now all.tickets)
