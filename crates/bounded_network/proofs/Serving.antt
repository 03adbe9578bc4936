-- The network of rules for either kind of amounts.
use Rattle.match_rules.specs.declared.answer.Sieve.{Sieve}
use Rattle.match_rules.specs.Rules.{RulesValue, AreRules}
use Rattle.bounded_network.specs.declared.spans.Amounts.{Amounts}
use Rattle.bounded_network.specs.declared.spans.Amounts.TheVariants.{Tickets, Rounded}
use Rattle.bounded_network.specs.declared.totals.Totals.{Totals}
use Rattle.bounded_network.specs.Network.{IsNetwork}
use Rattle.bounded_network.specs.Spans.{CanDivide, spans_of}
use Rattle.bounded_network.specs.Compile.{Serves, network_of}
use Rattle.bounded_network.specs.Totals.{AreTotals}
use Rattle.bounded_network.proofs.Fitting.{are-shares, tickets-network, rounded-network}
use Rattle.bounded_network.proofs.ScaledLaws.{always-next}

pub within-limits : (rules : RulesValue) (sieve : Sieve) (amounts : Amounts) (totals : Totals) → AreRules rules → CanDivide rules amounts → AreTotals rules amounts totals
    → IsNetwork (network_of rules (spans_of rules sieve amounts))
within-limits rules sieve Tickets totals are can sums = tickets-network rules sieve are
within-limits rules sieve (Rounded shares left) totals are can sums = rounded-network rules shares.now left are can.0 sums.words

pub serves : (rules : RulesValue) (sieve : Sieve) (amounts : Amounts) (totals : Totals) → AreRules rules → CanDivide rules amounts → AreTotals rules amounts totals
    → Serves rules sieve amounts (network_of rules (spans_of rules sieve amounts))
serves rules sieve Tickets totals are can sums = are-shares rules sieve are
serves rules sieve (Rounded shares left) totals are can sums =
    always-next rules shares.now left are (rounded-network rules shares.now left are can.0 sums.words) can.0
