-- Worked examples: the networks of rules that can be followed by hand.
use Rattle.std.specs.Prelude.{ℕ, [], ◌∷◌, ℤ, pos, neg_ℤ}
use Rattle.match_rules.specs.declared.answer.Sieve.TheVariants.{All as EveryPair}
use Rattle.match_rules.specs.Rules.{RulesValue}
use Rattle.bounded_network.specs.declared.network.Arc.{Arc}
use Rattle.bounded_network.specs.Network.{NetworkValue}
use Rattle.bounded_network.specs.Spans.{ticket_spans}
use Rattle.bounded_network.specs.Compile.{network_of}

abbrev pub arc : ℕ → ℕ → ℕ → ℕ → ℤ → Arc
arc tail head floor room cost = record { tail = tail; head = head; floor = floor; room = room; cost = cost }

-- the network of shares with all pairs
abbrev pub network : RulesValue → NetworkValue
network rules = network_of rules (ticket_spans rules EveryPair)

-- two nodes with an arc there, which earns 5 a unit, and one back
abbrev pub two_nodes : NetworkValue
two_nodes = record { nodes = 2; arcs = arc 0 1 1 3 (neg_ℤ (pos 5)) ∷ (arc 1 0 0 2 (pos 1) ∷ []) }
