-- Shares that fit rules are the amounts within the bounds of tickets, and what the network of rules is for.
use Rattle.std.proofs.Common.{ℕ, ◌<◌, ◌≤◌, List, length, arith}
use Rattle.std.specs.Prelude.{slice_index}
use Rattle.match_rules.specs.declared.answer.Sieve.{Sieve}
use Rattle.match_rules.specs.Rules.{RulesValue, AreRules, pair_at}
use Rattle.match_rules.specs.Assignments.{keeps}
use Rattle.match_rules.specs.SharesFit.{SharesFit}
use Rattle.bounded_network.specs.Network.{IsNetwork, IsCirculation}
use Rattle.bounded_network.specs.Spans.{AreWithin, ticket_spans, rounded_spans}
use Rattle.bounded_network.specs.Compile.{Compiles, AreShares, network_of, amounts_in}
use Rattle.bounded_network.specs.Totals.{AreWords}
use Rattle.bounded_network.proofs.Compiled.{compiled, amount-in}
use Rattle.bounded_network.proofs.PriceLaws.{cost-is_score}
use Rattle.bounded_network.proofs.Small.{network-of_small, tickets-small, rounded-spans-small, when-at_most}

pub within-fit : (rules : RulesValue) (sieve : Sieve) (shares : List ℕ) → AreWithin rules (ticket_spans rules sieve) shares → SharesFit rules sieve shares
within-fit rules sieve shares within = record {
  long = within.long;
  papers = λ p lt. let both = within.papers p lt in omega (arith, both.0, both.1);
  of_groups = λ g lt. (within.of_groups g lt).1;
  least = λ r lt. (within.reviewers r lt).0;
  greatest = λ r lt. (within.reviewers r lt).1;
  floors = λ e lt. (within.pairs e lt).0;
  caps = λ e lt. (within.pairs e lt).1;
}

pub fit-within : (rules : RulesValue) (sieve : Sieve) (shares : List ℕ) → SharesFit rules sieve shares → AreWithin rules (ticket_spans rules sieve) shares
fit-within rules sieve shares fit = record {
  long = fit.long;
  pairs = λ e lt. (fit.floors e lt, fit.caps e lt);
  papers = λ p lt. let same = fit.papers p lt in (omega (arith, same), omega (arith, same));
  of_groups = λ g lt. (omega arith, fit.of_groups g lt);
  reviewers = λ r lt. (fit.least r lt, fit.greatest r lt);
}

-- the circulations for tickets are the shares that fit
pub are-shares : (rules : RulesValue) (sieve : Sieve) → AreRules rules → AreShares rules sieve (network_of rules (ticket_spans rules sieve))
are-shares rules sieve are =
    let means : Compiles rules (ticket_spans rules sieve) (network_of rules (ticket_spans rules sieve)) = compiled rules (ticket_spans rules sieve) are in
    record {
      fit = λ flow round. within-fit rules sieve (amounts_in rules flow) (means.sound flow round);
      score = λ flow round. cost-is_score rules sieve flow;
      all = λ shares fit. means.complete shares (fit-within rules sieve shares fit);
    }

pub tickets-network : (rules : RulesValue) (sieve : Sieve) → AreRules rules → IsNetwork (network_of rules (ticket_spans rules sieve))
tickets-network rules sieve are = network-of_small rules (ticket_spans rules sieve) are (tickets-small rules sieve are)

pub rounded-network : (rules : RulesValue) (shares : List ℕ) (left : ℕ) → AreRules rules → 1 ≤ left → AreWords shares → IsNetwork (network_of rules (rounded_spans rules shares left))
rounded-network rules shares left are some words = network-of_small rules (rounded_spans rules shares left) are (rounded-spans-small rules shares left are some words)

-- the amounts of the pairs of a circulation are at most all tickets
pub circulation-small : (rules : RulesValue) (sieve : Sieve) (flow : List ℕ) (e : ℕ) → AreRules rules → IsCirculation (network_of rules (ticket_spans rules sieve)) flow
    → e < length rules.pairs → slice_index flow e ≤ rules.tickets
circulation-small rules sieve flow e are round lt =
    let cap = ((compiled rules (ticket_spans rules sieve) are).sound flow round).pairs e lt in
    omega (arith, cap.1, amount-in rules flow e lt, when-at_most (keeps rules sieve e) (pair_at rules e).cap, (are.pairs.each e lt).within)
