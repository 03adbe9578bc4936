-- A flow of the network of rules balances exactly where each paper, group and reviewer passes on the sum of its pairs.
use Rattle.std.proofs.Common.{◌≡◌, ℕ, ◌+◌, ◌-◌, ◌<◌, false, List, length, Option, Some, None, refl, sym, ap, ◌∙◌, subst, arith, inl, inr}
use Rattle.std.specs.Prelude.{◌==◌, slice_index}
use Rattle.std.specs.Option.{option_map_or}
use Rattle.std.proofs.lemmas.Bool.{eq-eqb, ne_eqb, cases_eq, cases_lt}
use Rattle.match_rules.specs.Rules.{RulesValue, AreRules, pair_at}
use Rattle.match_rules.specs.Groups.{group_count, group_of, is_in_group, paper_of_group}
use Rattle.match_rules.specs.SharesFit.{paper_shares, group_shares, reviewer_shares}
use Rattle.match_rules.specs.Sums.{count_below, when}
use Rattle.match_rules.proofs.GroupLaws.{group_of_below, group_of_paper, group_has_pair}
use Rattle.bounded_network.specs.declared.network.Arc.{Arc}
use Rattle.bounded_network.specs.Network.{NetworkValue, no_arc, entering, leaving}
use Rattle.bounded_network.specs.Spans.{Spans}
use Rattle.bounded_network.specs.Compile.{group_node, parent_of, reviewer_node, hub, node_count, tail_of, pair_arc, paper_arc, group_arc, reviewer_arc, parts_of, paper_place, group_place, reviewer_place, network_of}
use Rattle.bounded_network.proofs.Sums.{count_below-equal, when-same, when-other}
use Rattle.bounded_network.proofs.Counts.{count_below-zero, count_below-sum, count_exchange, none_there, one_there, one_of, one_place, all_there, at_all_nodes, when-count, when-zero, when-swap}
use Rattle.bounded_network.proofs.Parts.{count-joined}

-- ---- where the ends of arcs are

-- the tail of a pair is a paper or a group
pub tail-below : (rules : RulesValue) (e : ℕ) → AreRules rules → e < length rules.pairs → tail_of rules e < length rules.papers + group_count rules
tail-below rules e are lt = by (group_of rules e) refl
  where
    by : (place : Option ℕ) → group_of rules e ≡ place → option_map_or (group_node rules) place (pair_at rules e).paper < length rules.papers + group_count rules
    by None is = omega (arith, (are.pairs.each e lt).paper)
    by (Some g) is = omega (arith, group_of_below rules e g is)

-- a group's paper is a paper
pub group-paper-below : (rules : RulesValue) (g : ℕ) → AreRules rules → g < group_count rules → paper_of_group rules g < length rules.papers
group-paper-below rules g are lt =
    let found = group_has_pair rules g lt in
    let e : ℕ = found.0 in
    let same : paper_of_group rules g ≡ (pair_at rules e).paper = group_of_paper rules e g found.2 in
    omega (arith, (are.pairs.each e found.1).paper)

-- a pair leaves the node of a group exactly where it is in the group
pub tail-of_group : (rules : RulesValue) (e g : ℕ) → AreRules rules → e < length rules.pairs → (tail_of rules e == group_node rules g) ≡ is_in_group rules g e
tail-of_group rules e g are lt = by (group_of rules e) refl
  where
    by : (place : Option ℕ) → group_of rules e ≡ place
        → (option_map_or (group_node rules) place (pair_at rules e).paper == group_node rules g) ≡ option_map_or (λ h. h == g) place false
    by None is = let below = (are.pairs.each e lt).paper in ne_eqb (pair_at rules e).paper (group_node rules g) (λ q. absurd (omega arith))
    by (Some h) is = elim (cases_eq h g) [
      | inl q ↦ rw q (eq-eqb (group_node rules g) (group_node rules g) refl ∙ sym (eq-eqb g g refl))
      | inr ne ↦ ne_eqb (group_node rules h) (group_node rules g) (λ q. ne (omega arith)) ∙ sym (ne_eqb h g ne)
    ]

-- a pair of a paper leaves the paper itself, or one of its groups
pub paper-of_pair : (rules : RulesValue) (e p x : ℕ) → p < length rules.papers →
    when ((pair_at rules e).paper == p) x ≡ when (tail_of rules e == p) x + count_below (group_count rules) (λ g. when (paper_of_group rules g == p) (when (is_in_group rules g e) x))
paper-of_pair rules e p x lt = by (group_of rules e) refl
  where
    by : (place : Option ℕ) → group_of rules e ≡ place →
        when ((pair_at rules e).paper == p) x ≡ when (option_map_or (group_node rules) place (pair_at rules e).paper == p) x + count_below (group_count rules) (λ g. when (paper_of_group rules g == p) (when (option_map_or (λ h. h == g) place false) x))
    by None is = omega (arith, count_below-zero (group_count rules) (λ g. when (paper_of_group rules g == p) 0) (λ g b. when-zero (paper_of_group rules g == p)))
    by (Some h) is =
        let here : when (group_node rules h == p) x ≡ 0 = when-other (group_node rules h) p x (λ q. absurd (omega arith)) in
        let swap = count_below-equal (group_count rules) (λ g. when (paper_of_group rules g == p) (when (h == g) x)) (λ g. when (h == g) (when (paper_of_group rules g == p) x)) (λ g b. when-swap (paper_of_group rules g == p) (h == g) x) in
        let one = one_place (group_count rules) h (λ g. when (paper_of_group rules g == p) x) (group_of_below rules e h is) in
        let same : when (paper_of_group rules h == p) x ≡ when ((pair_at rules e).paper == p) x = ap (λ q. when (q == p) x) (group_of_paper rules e h is) in
        omega (arith, here, swap, one, same)

-- a paper's amount is that of its pairs in no group, and its groups'
pub paper_shares-is : (rules : RulesValue) (flow : List ℕ) (p : ℕ) → p < length rules.papers →
    paper_shares rules flow p ≡ count_below (length rules.pairs) (λ e. when (tail_of rules e == p) (slice_index flow e)) + count_below (group_count rules) (λ g. when (paper_of_group rules g == p) (group_shares rules flow g))
paper_shares-is rules flow p lt =
    let k : ℕ = length rules.pairs in
    let groups : ℕ = group_count rules in
    let x : ℕ → ℕ = λ e. slice_index flow e in
    let inner : ℕ → ℕ → ℕ = λ g e. when (paper_of_group rules g == p) (when (is_in_group rules g e) (x e)) in
    let each = count_below-equal k (λ e. when ((pair_at rules e).paper == p) (x e)) (λ e. when (tail_of rules e == p) (x e) + count_below groups (λ g. inner g e)) (λ e b. paper-of_pair rules e p (x e) lt) in
    let split = count_below-sum k (λ e. when (tail_of rules e == p) (x e)) (λ e. count_below groups (λ g. inner g e)) in
    let turned = count_exchange groups k inner in
    let tests = count_below-equal groups (λ g. when (paper_of_group rules g == p) (group_shares rules flow g)) (λ g. count_below k (inner g)) (λ g b. when-count k (paper_of_group rules g == p) (λ e. when (is_in_group rules g e) (x e))) in
    omega (arith, each, split, turned, tests)

-- ---- what enters and leaves a node, part by part

-- what stands at a node, by the ends of the four kinds of arcs
abbrev pub at_node : RulesValue → List ℕ → (ℕ → ℕ) → (ℕ → ℕ) → (ℕ → ℕ) → (ℕ → ℕ) → ℕ → ℕ
at_node rules flow of_pair of_paper of_group of_reviewer v =
    ((count_below (length rules.pairs) (λ e. when (of_pair e == v) (slice_index flow e))
    + count_below (length rules.papers) (λ p. when (of_paper p == v) (slice_index flow (paper_place rules p))))
    + count_below (group_count rules) (λ g. when (of_group g == v) (slice_index flow (group_place rules g))))
    + count_below (length rules.reviewers) (λ r. when (of_reviewer r == v) (slice_index flow (reviewer_place rules r)))

pub entering-is : (rules : RulesValue) (spans : Spans) (flow : List ℕ) (v : ℕ) →
    entering (network_of rules spans) flow v ≡ at_node rules flow (λ e. reviewer_node rules (pair_at rules e).reviewer) (λ p. p) (group_node rules) (λ r. hub rules) v
entering-is rules spans flow v =
    omega (arith, count-joined (parts_of rules (pair_arc rules spans) (paper_arc rules spans) (group_arc rules spans) (reviewer_arc rules spans)) no_arc (λ (arc : Arc) a. when (arc.head == v) (slice_index flow a)) (λ a. a))

pub leaving-is : (rules : RulesValue) (spans : Spans) (flow : List ℕ) (v : ℕ) →
    leaving (network_of rules spans) flow v ≡ at_node rules flow (tail_of rules) (λ p. hub rules) (parent_of rules) (reviewer_node rules) v
leaving-is rules spans flow v =
    omega (arith, count-joined (parts_of rules (pair_arc rules spans) (paper_arc rules spans) (group_arc rules spans) (reviewer_arc rules spans)) no_arc (λ (arc : Arc) a. when (arc.tail == v) (slice_index flow a)) (λ a. a))

-- the amounts of papers, groups and reviewers in a flow
abbrev pub paper_flow : RulesValue → List ℕ → ℕ → ℕ
paper_flow rules flow p = slice_index flow (paper_place rules p)

abbrev pub group_flow : RulesValue → List ℕ → ℕ → ℕ
group_flow rules flow g = slice_index flow (group_place rules g)

abbrev pub reviewer_flow : RulesValue → List ℕ → ℕ → ℕ
reviewer_flow rules flow r = slice_index flow (reviewer_place rules r)

pub enters-paper : (rules : RulesValue) (spans : Spans) (flow : List ℕ) (p : ℕ) → p < length rules.papers →
    entering (network_of rules spans) flow p ≡ paper_flow rules flow p
enters-paper rules spans flow p lt =
    let x : ℕ → ℕ = slice_index flow in
    let a = none_there (length rules.pairs) p (λ e. reviewer_node rules (pair_at rules e).reviewer) x (λ e b q. absurd (omega arith)) in
    let b = one_of (length rules.papers) p (paper_flow rules flow) lt in
    let c = none_there (group_count rules) p (group_node rules) (group_flow rules flow) (λ g b q. absurd (omega arith)) in
    let d = none_there (length rules.reviewers) p (λ r. hub rules) (reviewer_flow rules flow) (λ r b q. absurd (omega arith)) in
    omega (arith, entering-is rules spans flow p, a, b, c, d)

pub leaves-paper : (rules : RulesValue) (spans : Spans) (flow : List ℕ) (p : ℕ) → p < length rules.papers →
    leaving (network_of rules spans) flow p
    ≡ count_below (length rules.pairs) (λ e. when (tail_of rules e == p) (slice_index flow e)) + count_below (group_count rules) (λ g. when (paper_of_group rules g == p) (group_flow rules flow g))
leaves-paper rules spans flow p lt =
    let b = none_there (length rules.papers) p (λ p. hub rules) (paper_flow rules flow) (λ r b q. absurd (omega arith)) in
    let d = none_there (length rules.reviewers) p (reviewer_node rules) (reviewer_flow rules flow) (λ g b q. absurd (omega arith)) in
    omega (arith, leaving-is rules spans flow p, b, d)

pub enters-group : (rules : RulesValue) (spans : Spans) (flow : List ℕ) (g : ℕ) → g < group_count rules →
    entering (network_of rules spans) flow (group_node rules g) ≡ group_flow rules flow g
enters-group rules spans flow g lt =
    let v : ℕ = group_node rules g in
    let x : ℕ → ℕ = slice_index flow in
    let a = none_there (length rules.pairs) v (λ e. reviewer_node rules (pair_at rules e).reviewer) x (λ e b q. absurd (omega arith)) in
    let b = none_there (length rules.papers) v (λ p. p) (paper_flow rules flow) (λ p b q. absurd (omega arith)) in
    let c = one_there (group_count rules) (length rules.papers) g (group_flow rules flow) lt in
    let d = none_there (length rules.reviewers) v (λ r. hub rules) (reviewer_flow rules flow) (λ r b q. absurd (omega arith)) in
    omega (arith, entering-is rules spans flow v, a, b, c, d)

pub leaves-group : (rules : RulesValue) (spans : Spans) (flow : List ℕ) (g : ℕ) → AreRules rules → g < group_count rules →
    leaving (network_of rules spans) flow (group_node rules g) ≡ group_shares rules flow g
leaves-group rules spans flow g are lt =
    let v : ℕ = group_node rules g in
    let x : ℕ → ℕ = slice_index flow in
    let a = count_below-equal (length rules.pairs) (λ e. when (tail_of rules e == v) (x e)) (λ e. when (is_in_group rules g e) (x e)) (λ e b. ap (λ t. when t (x e)) (tail-of_group rules e g are b)) in
    let b = none_there (length rules.papers) v (λ p. hub rules) (paper_flow rules flow) (λ p b q. absurd (omega arith)) in
    let c = none_there (group_count rules) v (paper_of_group rules) (group_flow rules flow) (λ h b q. absurd (omega (arith, group-paper-below rules h are b))) in
    let d = none_there (length rules.reviewers) v (reviewer_node rules) (reviewer_flow rules flow) (λ r b q. absurd (omega arith)) in
    omega (arith, leaving-is rules spans flow v, a, b, c, d)

same-reviewer : (rules : RulesValue) (q r x : ℕ) → when (reviewer_node rules q == reviewer_node rules r) x ≡ when (q == r) x
same-reviewer rules q r x = elim (cases_eq q r) [
  | inl e ↦ rw e (when-same (reviewer_node rules r) x ∙ sym (when-same r x))
  | inr ne ↦ when-other (reviewer_node rules q) (reviewer_node rules r) x (λ s. ne (omega arith)) ∙ sym (when-other q r x ne)
]

pub enters-reviewer : (rules : RulesValue) (spans : Spans) (flow : List ℕ) (r : ℕ) → r < length rules.reviewers →
    entering (network_of rules spans) flow (reviewer_node rules r) ≡ reviewer_shares rules flow r
enters-reviewer rules spans flow r lt =
    let v : ℕ = reviewer_node rules r in
    let x : ℕ → ℕ = slice_index flow in
    let a = count_below-equal (length rules.pairs) (λ e. when (reviewer_node rules (pair_at rules e).reviewer == v) (x e)) (λ e. when ((pair_at rules e).reviewer == r) (x e)) (λ e b. same-reviewer rules (pair_at rules e).reviewer r (x e)) in
    let b = none_there (length rules.papers) v (λ p. p) (paper_flow rules flow) (λ p b q. absurd (omega arith)) in
    let c = none_there (group_count rules) v (group_node rules) (group_flow rules flow) (λ h b q. absurd (omega arith)) in
    let d = none_there (length rules.reviewers) v (λ r. hub rules) (reviewer_flow rules flow) (λ r b q. absurd (omega arith)) in
    omega (arith, entering-is rules spans flow v, a, b, c, d)

pub leaves-reviewer : (rules : RulesValue) (spans : Spans) (flow : List ℕ) (r : ℕ) → AreRules rules → r < length rules.reviewers →
    leaving (network_of rules spans) flow (reviewer_node rules r) ≡ reviewer_flow rules flow r
leaves-reviewer rules spans flow r are lt =
    let v : ℕ = reviewer_node rules r in
    let x : ℕ → ℕ = slice_index flow in
    let a = none_there (length rules.pairs) v (tail_of rules) x (λ e b q. absurd (omega (arith, tail-below rules e are b))) in
    let b = none_there (length rules.papers) v (λ p. hub rules) (paper_flow rules flow) (λ p b q. absurd (omega arith)) in
    let c = none_there (group_count rules) v (paper_of_group rules) (group_flow rules flow) (λ h b q. absurd (omega (arith, group-paper-below rules h are b))) in
    let d = one_there (length rules.reviewers) (length rules.papers + group_count rules) r (reviewer_flow rules flow) lt in
    omega (arith, leaving-is rules spans flow v, a, b, c, d)

pub enters-hub : (rules : RulesValue) (spans : Spans) (flow : List ℕ) → AreRules rules →
    entering (network_of rules spans) flow (hub rules) ≡ count_below (length rules.reviewers) (reviewer_flow rules flow)
enters-hub rules spans flow are =
    let v : ℕ = hub rules in
    let x : ℕ → ℕ = slice_index flow in
    let a = none_there (length rules.pairs) v (λ e. reviewer_node rules (pair_at rules e).reviewer) x (λ e b q. absurd (omega (arith, (are.pairs.each e b).reviewer))) in
    let b = none_there (length rules.papers) v (λ p. p) (paper_flow rules flow) (λ p b q. absurd (omega arith)) in
    let c = none_there (group_count rules) v (group_node rules) (group_flow rules flow) (λ h b q. absurd (omega arith)) in
    let d = all_there (length rules.reviewers) v (reviewer_flow rules flow) in
    omega (arith, entering-is rules spans flow v, a, b, c, d)

pub leaves-hub : (rules : RulesValue) (spans : Spans) (flow : List ℕ) → AreRules rules →
    leaving (network_of rules spans) flow (hub rules) ≡ count_below (length rules.papers) (paper_flow rules flow)
leaves-hub rules spans flow are =
    let v : ℕ = hub rules in
    let x : ℕ → ℕ = slice_index flow in
    let a = none_there (length rules.pairs) v (tail_of rules) x (λ e b q. absurd (omega (arith, tail-below rules e are b))) in
    let b = all_there (length rules.papers) v (paper_flow rules flow) in
    let c = none_there (group_count rules) v (paper_of_group rules) (group_flow rules flow) (λ h b q. absurd (omega (arith, group-paper-below rules h are b))) in
    let d = none_there (length rules.reviewers) v (reviewer_node rules) (reviewer_flow rules flow) (λ r b q. absurd (omega arith)) in
    omega (arith, leaving-is rules spans flow v, a, b, c, d)

-- ---- passing on

-- papers, groups and reviewers have the sums of their pairs
pub record Passes (rules : RulesValue) (flow : List ℕ) : Type 0 where
  pub papers : (p : ℕ) → p < length rules.papers → paper_flow rules flow p ≡ paper_shares rules flow p
  pub of_groups : (g : ℕ) → g < group_count rules → group_flow rules flow g ≡ group_shares rules flow g
  pub reviewers : (r : ℕ) → r < length rules.reviewers → reviewer_flow rules flow r ≡ reviewer_shares rules flow r

leaves-paper-sum : (rules : RulesValue) (spans : Spans) (flow : List ℕ) (p : ℕ) → p < length rules.papers
    → ((g : ℕ) → g < group_count rules → group_flow rules flow g ≡ group_shares rules flow g)
    → leaving (network_of rules spans) flow p ≡ paper_shares rules flow p
leaves-paper-sum rules spans flow p lt same =
    let each = count_below-equal (group_count rules) (λ g. when (paper_of_group rules g == p) (group_flow rules flow g)) (λ g. when (paper_of_group rules g == p) (group_shares rules flow g)) (λ g b. ap (λ y. when (paper_of_group rules g == p) y) (same g b)) in
    omega (arith, leaves-paper rules spans flow p lt, paper_shares-is rules flow p lt, each)

pub passes-of_balanced : (rules : RulesValue) (spans : Spans) (flow : List ℕ) → AreRules rules
    → ((v : ℕ) → v < node_count rules → entering (network_of rules spans) flow v ≡ leaving (network_of rules spans) flow v) → Passes rules flow
passes-of_balanced rules spans flow are balanced =
    let of_groups : (g : ℕ) → g < group_count rules → group_flow rules flow g ≡ group_shares rules flow g =
    λ g lt. sym (enters-group rules spans flow g lt) ∙ balanced (group_node rules g) (omega arith) ∙ leaves-group rules spans flow g are lt in
    record {
      papers = λ p lt. sym (enters-paper rules spans flow p lt) ∙ balanced p (omega arith) ∙ leaves-paper-sum rules spans flow p lt of_groups;
      of_groups = of_groups;
      reviewers = λ r lt. sym (leaves-reviewer rules spans flow r are lt) ∙ sym (balanced (reviewer_node rules r) (omega arith)) ∙ enters-reviewer rules spans flow r lt;
    }

pub hub-balanced : (rules : RulesValue) (spans : Spans) (flow : List ℕ) → AreRules rules → Passes rules flow
    → entering (network_of rules spans) flow (hub rules) ≡ leaving (network_of rules spans) flow (hub rules)
hub-balanced rules spans flow are passes =
    let k : ℕ = length rules.pairs in
    let x : ℕ → ℕ = slice_index flow in
    let rs = count_below-equal (length rules.reviewers) (reviewer_flow rules flow) (reviewer_shares rules flow) passes.reviewers in
    let ps = count_below-equal (length rules.papers) (paper_flow rules flow) (paper_shares rules flow) passes.papers in
    let rall = at_all_nodes (length rules.reviewers) k (λ e. (pair_at rules e).reviewer) x (λ e b. (are.pairs.each e b).reviewer) in
    let pall = at_all_nodes (length rules.papers) k (λ e. (pair_at rules e).paper) x (λ e b. (are.pairs.each e b).paper) in
    omega (arith, enters-hub rules spans flow are, leaves-hub rules spans flow are, rs, ps, rall, pall)

pub balanced-of_passes : (rules : RulesValue) (spans : Spans) (flow : List ℕ) → AreRules rules → Passes rules flow
    → (v : ℕ) → v < node_count rules → entering (network_of rules spans) flow v ≡ leaving (network_of rules spans) flow v
balanced-of_passes rules spans flow are passes v lt =
    let net : NetworkValue = network_of rules spans in
    let ps : ℕ = length rules.papers in
    let gs : ℕ = group_count rules in
    elim (cases_lt v ps) [
      | inl h ↦ enters-paper rules spans flow v h ∙ passes.papers v h ∙ sym (leaves-paper-sum rules spans flow v h passes.of_groups)
      | inr h ↦ elim (cases_lt v (ps + gs)) [
        | inl h2 ↦
            let g : ℕ = v - ps in
            let e : group_node rules g ≡ v = omega arith in
            let b : g < gs = omega arith in
            subst (λ n. entering net flow n ≡ leaving net flow n) e
            (enters-group rules spans flow g b ∙ passes.of_groups g b ∙ sym (leaves-group rules spans flow g are b))
        | inr h2 ↦ elim (cases_lt v (hub rules)) [
          | inl h3 ↦
              let r : ℕ = v - (ps + gs) in
              let e : reviewer_node rules r ≡ v = omega arith in
              let b : r < length rules.reviewers = omega arith in
              subst (λ n. entering net flow n ≡ leaving net flow n) e
              (enters-reviewer rules spans flow r b ∙ sym (passes.reviewers r b) ∙ sym (leaves-reviewer rules spans flow r are b))
          | inr h3 ↦
              let e : hub rules ≡ v = omega arith in
              subst (λ n. entering net flow n ≡ leaving net flow n) e (hub-balanced rules spans flow are passes)
        ]
      ]
    ]
