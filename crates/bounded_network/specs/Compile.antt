-- The network of rules, whose circulations are the amounts within the bounds.
use Rattle.std.specs.Prelude.{◌≡◌, ℕ, zero, suc, ◌+◌, Bool, List, [], ◌∷◌, ◌++◌, length, take, slice_index, pos, neg_ℤ}
use Rattle.std.specs.Option.{option_map_or}
use Rattle.match_rules.specs.declared.answer.Sieve.{Sieve}
use Rattle.match_rules.specs.Rules.{RulesValue, pair_at}
use Rattle.match_rules.specs.Groups.{group_count, group_of, paper_of_group}
use Rattle.match_rules.specs.SharesFit.{SharesFit, paper_shares, group_shares, reviewer_shares, shares_score}
use Rattle.bounded_network.specs.declared.network.Arc.{Arc}
use Rattle.bounded_network.specs.declared.spans.Amounts.{Amounts}
use Rattle.bounded_network.specs.declared.spans.Amounts.TheVariants.{Tickets, Rounded}
use Rattle.bounded_network.specs.Network.{NetworkValue, IsCirculation, AreViolated, flow_cost}
use Rattle.bounded_network.specs.Spans.{Spans, AreWithin, amounts_cost}

-- f 0, .., f (n - 1)
abbrev pub listed : {X : Type 0} → ℕ → (ℕ → X) → List X
listed zero f = []
listed (suc n) f = listed n f ++ (f n ∷ [])

-- a part of a list: so many entries
pub record Part (X : Type 0) : Type 0 where
  pub size : ℕ
  pub entry : ℕ → X

abbrev pub part : {X : Type 0} → ℕ → (ℕ → X) → Part X
part size entry = record { size = size; entry = entry }

-- one part after another
abbrev pub joined : {X : Type 0} → List (Part X) → List X
joined [] = []
joined (one ∷ parts) = listed one.size one.entry ++ joined parts

-- the nodes are the papers, then the groups, then the reviewers, and the hub
abbrev pub group_node : RulesValue → ℕ → ℕ
group_node rules g = length rules.papers + g

abbrev pub reviewer_node : RulesValue → ℕ → ℕ
reviewer_node rules r = (length rules.papers + group_count rules) + r

abbrev pub hub : RulesValue → ℕ
hub rules = (length rules.papers + group_count rules) + length rules.reviewers

abbrev pub node_count : RulesValue → ℕ
node_count rules = hub rules + 1

-- the node that a group's amount comes from: its paper
abbrev pub parent_of : RulesValue → ℕ → ℕ
parent_of rules g = paper_of_group rules g

-- the node that a pair's amount comes from: its group where it has one, else its paper
abbrev pub tail_of : RulesValue → ℕ → ℕ
tail_of rules e = option_map_or (group_node rules) (group_of rules e) (pair_at rules e).paper

-- a pair's amount goes on to its reviewer
abbrev pub pair_arc : RulesValue → Spans → ℕ → Arc
pair_arc rules spans e = record {
  tail = tail_of rules e;
  head = reviewer_node rules (pair_at rules e).reviewer;
  floor = (spans.pairs e).floor;
  room = (spans.pairs e).room;
  cost = spans.cost e;
}

-- a paper's amount comes from the hub
abbrev pub paper_arc : RulesValue → Spans → ℕ → Arc
paper_arc rules spans p = record {
  tail = hub rules;
  head = p;
  floor = (spans.papers p).floor;
  room = (spans.papers p).room;
  cost = pos 0;
}

-- a group's amount comes from its parent
abbrev pub group_arc : RulesValue → Spans → ℕ → Arc
group_arc rules spans g = record {
  tail = parent_of rules g;
  head = group_node rules g;
  floor = (spans.of_groups g).floor;
  room = (spans.of_groups g).room;
  cost = pos 0;
}

-- a reviewer's amount goes back to the hub
abbrev pub reviewer_arc : RulesValue → Spans → ℕ → Arc
reviewer_arc rules spans r = record {
  tail = reviewer_node rules r;
  head = hub rules;
  floor = (spans.reviewers r).floor;
  room = (spans.reviewers r).room;
  cost = pos 0;
}

-- the parts of a list of all pairs, papers, groups and reviewers, in this order
abbrev pub parts_of : {X : Type 0} → RulesValue → (ℕ → X) → (ℕ → X) → (ℕ → X) → (ℕ → X) → List (Part X)
parts_of rules of_pair of_paper of_group of_reviewer =
    part (length rules.pairs) of_pair
    ∷ (part (length rules.papers) of_paper
    ∷ (part (group_count rules) of_group
    ∷ (part (length rules.reviewers) of_reviewer
    ∷ [])))

-- one entry for each of them
abbrev pub in_parts : {X : Type 0} → RulesValue → (ℕ → X) → (ℕ → X) → (ℕ → X) → (ℕ → X) → List X
in_parts rules of_pair of_paper of_group of_reviewer = joined (parts_of rules of_pair of_paper of_group of_reviewer)

-- the places of their entries
abbrev pub pair_place : RulesValue → ℕ → ℕ
pair_place rules e = e

abbrev pub paper_place : RulesValue → ℕ → ℕ
paper_place rules p = length rules.pairs + p

abbrev pub group_place : RulesValue → ℕ → ℕ
group_place rules g = length rules.pairs + (length rules.papers + g)

abbrev pub reviewer_place : RulesValue → ℕ → ℕ
reviewer_place rules r = length rules.pairs + (length rules.papers + (group_count rules + r))

abbrev pub place_count : RulesValue → ℕ
place_count rules = reviewer_place rules (length rules.reviewers)

-- the network of rules with bounds
abbrev pub network_of : RulesValue → Spans → NetworkValue
network_of rules spans = record {
  nodes = node_count rules;
  arcs = in_parts rules (pair_arc rules spans) (paper_arc rules spans) (group_arc rules spans) (reviewer_arc rules spans);
}

-- the amounts of the pairs in a flow, which stand first
abbrev pub amounts_in : RulesValue → List ℕ → List ℕ
amounts_in rules flow = take (length rules.pairs) flow

-- the flow of amounts: each node passes on the sum of its pairs
abbrev pub flow_of : RulesValue → List ℕ → List ℕ
flow_of rules amounts =
    in_parts rules (slice_index amounts) (paper_shares rules amounts) (group_shares rules amounts) (reviewer_shares rules amounts)

-- the circulations of a network are exactly the flows of the amounts within the bounds, at the same cost
pub record Compiles (rules : RulesValue) (spans : Spans) (net : NetworkValue) : Type 0 where
  pub sound : (flow : List ℕ) → IsCirculation net flow → AreWithin rules spans (amounts_in rules flow)
  pub cost : (flow : List ℕ) → IsCirculation net flow → flow_cost net flow ≡ amounts_cost rules spans (amounts_in rules flow)
  pub complete : (amounts : List ℕ) → AreWithin rules spans amounts → IsCirculation net (flow_of rules amounts)
  pub same : (amounts : List ℕ) → AreWithin rules spans amounts → amounts_in rules (flow_of rules amounts) ≡ amounts
  pub only : (flow : List ℕ) → IsCirculation net flow → flow ≡ flow_of rules (amounts_in rules flow)

-- the circulations are exactly the shares that fit, and the cost of one is minus its score
pub record AreShares (rules : RulesValue) (sieve : Sieve) (net : NetworkValue) : Type 0 where
  pub fit : (flow : List ℕ) → IsCirculation net flow → SharesFit rules sieve (amounts_in rules flow)
  pub score : (flow : List ℕ) → IsCirculation net flow → flow_cost net flow ≡ neg_ℤ (shares_score rules (amounts_in rules flow))
  pub all : (shares : List ℕ) → SharesFit rules sieve shares → IsCirculation net (flow_of rules shares)

-- what the network is for, by the kind of amounts: its circulations are the shares that fit; or, where amounts are
-- rounded, there are always some, since no marks are violated
abbrev pub Serves : RulesValue → Sieve → Amounts → NetworkValue → Type 0
Serves rules sieve Tickets net = AreShares rules sieve net
Serves rules sieve (Rounded shares left) net = (marks : List Bool) → ¬ (AreViolated net marks)
