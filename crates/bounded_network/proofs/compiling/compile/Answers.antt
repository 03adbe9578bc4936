use Rattle.match_rules.specs.Rules.{RulesValue, AreRules}
use Rattle.bounded_network.specs.Network.{IsNetwork}
use Rattle.bounded_network.specs.Spans.{Spans, spans_of}
use Rattle.bounded_network.specs.Compile.{network_of}
use Rattle.bounded_network.proofs.Compiled.{compiled}
use Rattle.bounded_network.proofs.Serving.{within-limits, serves}
use Rattle.bounded_network.proofs.compiling.compile.Goals as goal

pub unreachable-requires : goal.unreachable-requires
unreachable-requires c =
    let all : RulesValue = c.args.rules.now in
    let are : AreRules all = c.hub_of.ensures.kept in
    let good : IsNetwork (network_of all (spans_of all c.args.sieve c.args.amounts)) =
    within-limits all c.args.sieve c.args.amounts c.in_ok-totals.totals are c.requires.divides c.in_ok-totals.ensures in
    let exact = rw (c.hub_of.ensures.value, c.in_ok-arcs.ensures) at c.in-Err.ensures.exact in
    absurd (cc (exact.1 good))

pub returns-clause-means : goal.returns-clause-means
returns-clause-means c =
    let all : RulesValue = c.args.rules.now in
    let are : AreRules all = c.hub_of.ensures.kept in
    let spans : Spans = spans_of all c.args.sieve c.args.amounts in
    rw (c.in-Ok.ensures.value, c.hub_of.ensures.value, c.in_ok-arcs.ensures) (compiled all spans are)

pub returns-clause-serves : goal.returns-clause-serves
returns-clause-serves c =
    let all : RulesValue = c.args.rules.now in
    let are : AreRules all = c.hub_of.ensures.kept in
    rw (c.in-Ok.ensures.value, c.hub_of.ensures.value, c.in_ok-arcs.ensures)
    (serves all c.args.sieve c.args.amounts c.in_ok-totals.totals are c.requires.divides c.in_ok-totals.ensures)
