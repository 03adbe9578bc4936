-- Prices of potentials are within their limits.
use Rattle.std.proofs.Common.{ℕ, zero, suc, ◌<◌, ◌≤◌, List, length, arith}
use Rattle.std.specs.Prelude.{ℤ, ◌-ℤ◌}
use Rattle.std.specs.List.{All}
use Rattle.std.proofs.lemmas.Int.{ints}
use Rattle.std.proofs.lemmas.List.Elements.{All-nil, All-push}
use Rattle.match_rules.specs.Rules.{RulesValue, AreRules}
use Rattle.match_rules.specs.Groups.{group_count, paper_of_group}
use Rattle.match_rules.specs.Answers.{IsWithin, ArePrices, PricesMatch, most_price}
use Rattle.match_rules.proofs.GroupLaws.{group_count_few}
use Rattle.bounded_network.specs.declared.network.TheConstants.{MAX_NODES}
use Rattle.bounded_network.specs.Network.{potential_at}
use Rattle.bounded_network.specs.Compile.{listed, hub, group_node, reviewer_node, node_count}
use Rattle.bounded_network.specs.Back.{AreWithinCosts, IsNear, prices_in, paper_price_in, group_price_in, reviewer_price_in}
use Rattle.bounded_network.proofs.Parts.{length-listed}

-- what holds of each holds of all that are listed
all-listed : {X : Type 0} → (P : X → Type 0) (n : ℕ) (f : ℕ → X) → ((i : ℕ) → i < n → P (f i)) → All P (listed n f)
all-listed P zero f each = All-nil P
all-listed P (suc n) f each = All-push P (listed n f) (f n) (all-listed P n f (λ i lt. each i (omega arith))) (each n (omega arith))

pub node_count-few : (rules : RulesValue) → AreRules rules → node_count rules ≤ MAX_NODES
node_count-few rules are = omega (arith, group_count_few rules, are.papers.few, are.reviewers.few, are.pairs.few)

pub potential-near : (rules : RulesValue) (potentials : List ℤ) (v : ℕ) → AreRules rules → AreWithinCosts rules potentials → IsNear (potential_at potentials v)
potential-near rules potentials v are within =
    let few = node_count-few rules are in
    let here = within v in
    (omega (arith, ints, few, here.0), omega (arith, ints, few, here.1))

price-within : (y z : ℤ) → IsNear y → IsNear z → IsWithin most_price (y -ℤ z)
price-within y z ys zs = (omega (arith, ints, ys.0, ys.1, zs.0, zs.1), omega (arith, ints, ys.0, ys.1, zs.0, zs.1))

listed-prices : (n : ℕ) (f : ℕ → ℤ) → ((i : ℕ) → IsWithin most_price (f i)) → ArePrices n (listed n f)
listed-prices n f each = (length-listed n f, all-listed (IsWithin most_price) n f (λ i lt. each i))

pub prices-match : (rules : RulesValue) (potentials : List ℤ) → AreRules rules → AreWithinCosts rules potentials → PricesMatch rules (prices_in rules potentials)
prices-match rules potentials are within =
    let near : (v : ℕ) → IsNear (potential_at potentials v) = λ v. potential-near rules potentials v are within in
    record {
      papers = listed-prices (length rules.papers) (paper_price_in rules potentials) (λ p. price-within (potential_at potentials p) (potential_at potentials (hub rules)) (near p) (near (hub rules)));
      of_groups = listed-prices (group_count rules) (group_price_in rules potentials) (λ g. price-within (potential_at potentials (group_node rules g)) (potential_at potentials (paper_of_group rules g)) (near (group_node rules g)) (near (paper_of_group rules g)));
      reviewers = listed-prices (length rules.reviewers) (reviewer_price_in rules potentials) (λ r. price-within (potential_at potentials (hub rules)) (potential_at potentials (reviewer_node rules r)) (near (hub rules)) (near (reviewer_node rules r)));
    }
