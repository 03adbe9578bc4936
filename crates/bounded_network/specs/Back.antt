-- What potentials and marks of the network of rules mean for the rules: prices and a cut.
use Rattle.std.specs.Prelude.{ℕ, zero, suc, ◌*◌, Bool, not, if◌then◌else◌, List, [], ◌∷◌, ◌++◌, length, ℤ, ◌-ℤ◌}
use Rattle.match_rules.specs.declared.answer.Cut.{Cut}
use Rattle.match_rules.specs.declared.answer.Prices.{Prices}
use Rattle.match_rules.specs.declared.answer.Side.{Side}
use Rattle.match_rules.specs.declared.answer.Side.TheVariants.{Into, OutOf}
use Rattle.match_rules.specs.Rules.{RulesValue, most_score}
use Rattle.match_rules.specs.Groups.{group_count}
use Rattle.match_rules.specs.Answers.{IsWithin}
use Rattle.bounded_network.specs.declared.network.TheConstants.{MAX_NODES}
use Rattle.bounded_network.specs.Network.{potential_at, is_marked}
use Rattle.bounded_network.specs.Compile.{listed, group_node, parent_of, reviewer_node, hub, node_count}

-- each potential is within the greatest magnitude of a score, times the number of nodes
abbrev pub AreWithinCosts : RulesValue → List ℤ → Type 0
AreWithinCosts rules potentials = (v : ℕ) → IsWithin (most_score * node_count rules) (potential_at potentials v)

-- the greatest magnitude of a potential, whatever the rules
abbrev pub most_potential : ℕ
most_potential = most_score * MAX_NODES

-- so a potential is far from the ends of 64 bits
abbrev pub IsNear : ℤ → Type 0
IsNear z = IsWithin most_potential z

-- a paper's price is what the potential rises from the hub to the paper
abbrev pub paper_price_in : RulesValue → List ℤ → ℕ → ℤ
paper_price_in rules potentials p = potential_at potentials p -ℤ potential_at potentials (hub rules)

-- a group's price is what it rises from the group's parent to the group
abbrev pub group_price_in : RulesValue → List ℤ → ℕ → ℤ
group_price_in rules potentials g = potential_at potentials (group_node rules g) -ℤ potential_at potentials (parent_of rules g)

-- a reviewer's price is what it rises from the reviewer to the hub
abbrev pub reviewer_price_in : RulesValue → List ℤ → ℕ → ℤ
reviewer_price_in rules potentials r = potential_at potentials (hub rules) -ℤ potential_at potentials (reviewer_node rules r)

abbrev pub prices_in : RulesValue → List ℤ → Prices
prices_in rules potentials = record {
  papers = listed (length rules.papers) (paper_price_in rules potentials);
  groups = listed (group_count rules) (group_price_in rules potentials);
  reviewers = listed (length rules.reviewers) (reviewer_price_in rules potentials);
}

-- the places below a count with a test, ascending
abbrev pub places_where : ℕ → (ℕ → Bool) → List ℕ
places_where zero test = []
places_where (suc n) test = if test n then places_where n test ++ (n ∷ []) else places_where n test

-- whether a node is on the other side of the marks than the hub
abbrev pub is_apart : RulesValue → List Bool → ℕ → Bool
is_apart rules marks v = if is_marked marks (hub rules) then not (is_marked marks v) else is_marked marks v

abbrev pub side_in : RulesValue → List Bool → Side
side_in rules marks = if is_marked marks (hub rules) then OutOf else Into

-- the cut of the nodes apart from the hub: into them where they are marked, and out of them where the hub is
abbrev pub cut_in : RulesValue → List Bool → Cut
cut_in rules marks = record {
  side = side_in rules marks;
  papers = places_where (length rules.papers) (is_apart rules marks);
  groups = places_where (group_count rules) (λ g. is_apart rules marks (group_node rules g));
  reviewers = places_where (length rules.reviewers) (λ r. is_apart rules marks (reviewer_node rules r));
}
