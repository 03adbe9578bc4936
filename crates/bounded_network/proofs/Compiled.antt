-- The circulations of the network of rules are exactly the flows of the amounts within the bounds.
use Rattle.std.proofs.Common.{◌≡◌, ℕ, ◌+◌, ◌<◌, ◌≤◌, Bool, List, [], ◌∷◌, length, get_or, sym, ap, ◌∙◌, subst, arith}
use Rattle.std.specs.Prelude.{pos, ◌*ℤ◌, slice_index, ◌==◌}
use Rattle.std.proofs.lemmas.Int.{ints}
use Rattle.std.proofs.lemmas.List.{get_or-take, length-take-le}
use Rattle.std.proofs.lemmas.Grind.{same_number_lists}
use Rattle.std.proofs.Math.IntN.{*ℤ-zero}
use Rattle.match_rules.specs.Rules.{RulesValue, AreRules, pair_at}
use Rattle.match_rules.specs.Groups.{group_count, is_in_group}
use Rattle.match_rules.specs.Answers.{shares_where}
use Rattle.match_rules.specs.SharesFit.{paper_shares, group_shares, reviewer_shares}
use Rattle.match_rules.specs.Sums.{when}
use Rattle.bounded_network.specs.declared.network.Arc.{Arc}
use Rattle.bounded_network.specs.Network.{NetworkValue, IsCirculation, arc_at, no_arc, flow_cost}
use Rattle.bounded_network.specs.Spans.{Spans, AreWithin, IsBetween, amounts_cost}
use Rattle.bounded_network.specs.Compile.{Compiles, Part, part, listed, pair_arc, paper_arc, group_arc, reviewer_arc, parts_of, in_parts, pair_place, paper_place, group_place, reviewer_place, place_count, network_of, amounts_in, flow_of}
use Rattle.bounded_network.proofs.Sums.{sum_below-equal, count_below-equal, sum_below-zero}
use Rattle.bounded_network.proofs.Parts.{length-joined, first-at, later-at, each-joined, sum-joined, take-first, length-listed, listed-at}
use Rattle.bounded_network.proofs.Nodes.{Passes, paper_flow, group_flow, reviewer_flow, passes-of_balanced, balanced-of_passes}

-- ---- the arcs by their kinds

-- the parts of the arcs, and of the flow of amounts
abbrev pub arc_parts : RulesValue → Spans → List (Part Arc)
arc_parts rules spans = parts_of rules (pair_arc rules spans) (paper_arc rules spans) (group_arc rules spans) (reviewer_arc rules spans)

abbrev pub flow_parts : RulesValue → List ℕ → List (Part ℕ)
flow_parts rules amounts = parts_of rules (slice_index amounts) (paper_shares rules amounts) (group_shares rules amounts) (reviewer_shares rules amounts)

-- the parts behind one
abbrev pub behind_groups : {X : Type 0} → RulesValue → (ℕ → X) → List (Part X)
behind_groups rules d = part (length rules.reviewers) d ∷ []

abbrev pub behind_papers : {X : Type 0} → RulesValue → (ℕ → X) → (ℕ → X) → List (Part X)
behind_papers rules c d = part (group_count rules) c ∷ behind_groups rules d

abbrev pub behind_pairs : {X : Type 0} → RulesValue → (ℕ → X) → (ℕ → X) → (ℕ → X) → List (Part X)
behind_pairs rules b c d = part (length rules.papers) b ∷ behind_papers rules c d

-- in a list of parts each kind has its places
pub pair-at : {X : Type 0} → (rules : RulesValue) (a b c d : ℕ → X) (x : X) (e : ℕ) → e < length rules.pairs → get_or (in_parts rules a b c d) (pair_place rules e) x ≡ a e
pair-at rules a b c d x e lt = first-at (part (length rules.pairs) a) (behind_pairs rules b c d) e x lt

pub paper-at : {X : Type 0} → (rules : RulesValue) (a b c d : ℕ → X) (x : X) (p : ℕ) → p < length rules.papers → get_or (in_parts rules a b c d) (paper_place rules p) x ≡ b p
paper-at rules a b c d x p lt =
    later-at (part (length rules.pairs) a) (behind_pairs rules b c d) p x
    ∙ first-at (part (length rules.papers) b) (behind_papers rules c d) p x lt

pub group-at : {X : Type 0} → (rules : RulesValue) (a b c d : ℕ → X) (x : X) (g : ℕ) → g < group_count rules → get_or (in_parts rules a b c d) (group_place rules g) x ≡ c g
group-at rules a b c d x g lt =
    later-at (part (length rules.pairs) a) (behind_pairs rules b c d) (length rules.papers + g) x
    ∙ later-at (part (length rules.papers) b) (behind_papers rules c d) g x
    ∙ first-at (part (group_count rules) c) (behind_groups rules d) g x lt

pub reviewer-at : {X : Type 0} → (rules : RulesValue) (a b c d : ℕ → X) (x : X) (r : ℕ) → r < length rules.reviewers → get_or (in_parts rules a b c d) (reviewer_place rules r) x ≡ d r
reviewer-at rules a b c d x r lt =
    later-at (part (length rules.pairs) a) (behind_pairs rules b c d) (length rules.papers + (group_count rules + r)) x
    ∙ later-at (part (length rules.papers) b) (behind_papers rules c d) (group_count rules + r) x
    ∙ later-at (part (group_count rules) c) (behind_groups rules d) r x
    ∙ first-at (part (length rules.reviewers) d) [] r x lt

pub length-in_parts : {X : Type 0} → (rules : RulesValue) (a b c d : ℕ → X) → length (in_parts rules a b c d) ≡ place_count rules
length-in_parts rules a b c d = omega (arith, length-joined (parts_of rules a b c d))

pub arc_count : (rules : RulesValue) (spans : Spans) → length (network_of rules spans).arcs ≡ place_count rules
arc_count rules spans = length-in_parts rules (pair_arc rules spans) (paper_arc rules spans) (group_arc rules spans) (reviewer_arc rules spans)

pub arc-of_pair : (rules : RulesValue) (spans : Spans) (e : ℕ) → e < length rules.pairs → arc_at (network_of rules spans) (pair_place rules e) ≡ pair_arc rules spans e
arc-of_pair rules spans e lt = pair-at rules (pair_arc rules spans) (paper_arc rules spans) (group_arc rules spans) (reviewer_arc rules spans) no_arc e lt

pub arc-of_paper : (rules : RulesValue) (spans : Spans) (p : ℕ) → p < length rules.papers → arc_at (network_of rules spans) (paper_place rules p) ≡ paper_arc rules spans p
arc-of_paper rules spans p lt = paper-at rules (pair_arc rules spans) (paper_arc rules spans) (group_arc rules spans) (reviewer_arc rules spans) no_arc p lt

pub arc-of_group : (rules : RulesValue) (spans : Spans) (g : ℕ) → g < group_count rules → arc_at (network_of rules spans) (group_place rules g) ≡ group_arc rules spans g
arc-of_group rules spans g lt = group-at rules (pair_arc rules spans) (paper_arc rules spans) (group_arc rules spans) (reviewer_arc rules spans) no_arc g lt

pub arc-of_reviewer : (rules : RulesValue) (spans : Spans) (r : ℕ) → r < length rules.reviewers → arc_at (network_of rules spans) (reviewer_place rules r) ≡ reviewer_arc rules spans r
arc-of_reviewer rules spans r lt = reviewer-at rules (pair_arc rules spans) (paper_arc rules spans) (group_arc rules spans) (reviewer_arc rules spans) no_arc r lt

-- what holds of the arcs of each kind holds of all arcs
pub each_arc : (rules : RulesValue) (spans : Spans) (Q : Arc → ℕ → Type 0)
    → ((e : ℕ) → e < length rules.pairs → Q (pair_arc rules spans e) (pair_place rules e))
    → ((p : ℕ) → p < length rules.papers → Q (paper_arc rules spans p) (paper_place rules p))
    → ((g : ℕ) → g < group_count rules → Q (group_arc rules spans g) (group_place rules g))
    → ((r : ℕ) → r < length rules.reviewers → Q (reviewer_arc rules spans r) (reviewer_place rules r))
    → (a : ℕ) → a < length (network_of rules spans).arcs → Q (arc_at (network_of rules spans) a) a
each_arc rules spans Q pairs papers groups reviewers a lt =
    each-joined (arc_parts rules spans) no_arc Q (λ a. a) (pairs, (papers, (groups, (reviewers, tt)))) a lt

-- and of the amounts of each kind, of all amounts
pub each_amount : (rules : RulesValue) (amounts : List ℕ) (Q : ℕ → ℕ → Type 0)
    → ((e : ℕ) → e < length rules.pairs → Q (slice_index amounts e) (pair_place rules e))
    → ((p : ℕ) → p < length rules.papers → Q (paper_shares rules amounts p) (paper_place rules p))
    → ((g : ℕ) → g < group_count rules → Q (group_shares rules amounts g) (group_place rules g))
    → ((r : ℕ) → r < length rules.reviewers → Q (reviewer_shares rules amounts r) (reviewer_place rules r))
    → (a : ℕ) → a < length (flow_of rules amounts) → Q (slice_index (flow_of rules amounts) a) a
each_amount rules amounts Q pairs papers groups reviewers a lt =
    each-joined (flow_parts rules amounts) 0 Q (λ a. a) (pairs, (papers, (groups, (reviewers, tt)))) a lt

pub same-sums : (rules : RulesValue) (xs ys : List ℕ) (test : ℕ → Bool) → ((e : ℕ) → e < length rules.pairs → slice_index xs e ≡ slice_index ys e)
    → shares_where rules xs test ≡ shares_where rules ys test
same-sums rules xs ys test same =
    count_below-equal (length rules.pairs) (λ e. when (test e) (slice_index xs e)) (λ e. when (test e) (slice_index ys e)) (λ e lt. ap (λ x. when (test e) x) (same e lt))

pub amount-in : (rules : RulesValue) (flow : List ℕ) (e : ℕ) → e < length rules.pairs → slice_index (amounts_in rules flow) e ≡ slice_index flow e
amount-in rules flow e lt = get_or-take (length rules.pairs) flow e 0 lt

pub in-sums : (rules : RulesValue) (flow : List ℕ) (test : ℕ → Bool) → shares_where rules (amounts_in rules flow) test ≡ shares_where rules flow test
in-sums rules flow test = same-sums rules (amounts_in rules flow) flow test (amount-in rules flow)

-- the amounts of each kind in the flow of amounts
pub flow-length : (rules : RulesValue) (amounts : List ℕ) → length (flow_of rules amounts) ≡ place_count rules
flow-length rules amounts = length-in_parts rules (slice_index amounts) (paper_shares rules amounts) (group_shares rules amounts) (reviewer_shares rules amounts)

pub flow-of_pair : (rules : RulesValue) (amounts : List ℕ) (e : ℕ) → e < length rules.pairs → slice_index (flow_of rules amounts) e ≡ slice_index amounts e
flow-of_pair rules amounts e lt =
    pair-at rules (slice_index amounts) (paper_shares rules amounts) (group_shares rules amounts) (reviewer_shares rules amounts) 0 e lt

pub flow-of_paper : (rules : RulesValue) (amounts : List ℕ) (p : ℕ) → p < length rules.papers → paper_flow rules (flow_of rules amounts) p ≡ paper_shares rules amounts p
flow-of_paper rules amounts p lt =
    paper-at rules (slice_index amounts) (paper_shares rules amounts) (group_shares rules amounts) (reviewer_shares rules amounts) 0 p lt

pub flow-of_group : (rules : RulesValue) (amounts : List ℕ) (g : ℕ) → g < group_count rules → group_flow rules (flow_of rules amounts) g ≡ group_shares rules amounts g
flow-of_group rules amounts g lt =
    group-at rules (slice_index amounts) (paper_shares rules amounts) (group_shares rules amounts) (reviewer_shares rules amounts) 0 g lt

pub flow-of_reviewer : (rules : RulesValue) (amounts : List ℕ) (r : ℕ) → r < length rules.reviewers → reviewer_flow rules (flow_of rules amounts) r ≡ reviewer_shares rules amounts r
flow-of_reviewer rules amounts r lt =
    reviewer-at rules (slice_index amounts) (paper_shares rules amounts) (group_shares rules amounts) (reviewer_shares rules amounts) 0 r lt

pub flow-passes : (rules : RulesValue) (amounts : List ℕ) → Passes rules (flow_of rules amounts)
flow-passes rules amounts =
    let same = flow-of_pair rules amounts in
    let flow : List ℕ = flow_of rules amounts in
    record {
      papers = λ p lt. flow-of_paper rules amounts p lt ∙ sym (same-sums rules flow amounts (λ e. (pair_at rules e).paper == p) same);
      of_groups = λ g lt. flow-of_group rules amounts g lt ∙ sym (same-sums rules flow amounts (is_in_group rules g) same);
      reviewers = λ r lt. flow-of_reviewer rules amounts r lt ∙ sym (same-sums rules flow amounts (λ e. (pair_at rules e).reviewer == r) same);
    }

-- ---- the clauses

between-arc : (net : NetworkValue) (flow : List ℕ) (a : ℕ) (arc : Arc) → IsCirculation net flow → a < length net.arcs → arc_at net a ≡ arc
    → (arc.floor ≤ slice_index flow a) × (slice_index flow a ≤ arc.room)
between-arc net flow a arc round lt is =
    subst (λ (y : Arc). (y.floor ≤ slice_index flow a) × (slice_index flow a ≤ y.room)) is (round.floors a lt, round.rooms a lt)

compiled-sound : (rules : RulesValue) (spans : Spans) → AreRules rules → (flow : List ℕ) → IsCirculation (network_of rules spans) flow → AreWithin rules spans (amounts_in rules flow)
compiled-sound rules spans are flow round =
    let net : NetworkValue = network_of rules spans in
    let k : ℕ = length rules.pairs in
    let ps : ℕ = length rules.papers in
    let gs : ℕ = group_count rules in
    let count = arc_count rules spans in
    let passes = passes-of_balanced rules spans flow are round.balanced in
    record {
      long = length-take-le k flow (omega (arith, round.long, count));
      pairs = λ e lt. subst (λ y. IsBetween (spans.pairs e) y) (sym (amount-in rules flow e lt))
          (between-arc net flow e (pair_arc rules spans e) round (omega (arith, count)) (arc-of_pair rules spans e lt));
      papers = λ p lt. subst (λ y. IsBetween (spans.papers p) y) (passes.papers p lt ∙ sym (in-sums rules flow (λ e. (pair_at rules e).paper == p)))
          (between-arc net flow (paper_place rules p) (paper_arc rules spans p) round (omega (arith, count)) (arc-of_paper rules spans p lt));
      of_groups = λ g lt. subst (λ y. IsBetween (spans.of_groups g) y) (passes.of_groups g lt ∙ sym (in-sums rules flow (is_in_group rules g)))
          (between-arc net flow (group_place rules g) (group_arc rules spans g) round (omega (arith, count)) (arc-of_group rules spans g lt));
      reviewers = λ r lt. subst (λ y. IsBetween (spans.reviewers r) y) (passes.reviewers r lt ∙ sym (in-sums rules flow (λ e. (pair_at rules e).reviewer == r)))
          (between-arc net flow (reviewer_place rules r) (reviewer_arc rules spans r) round (omega (arith, count)) (arc-of_reviewer rules spans r lt));
    }

-- the cost of a flow is that of its pairs
pub cost-of_pairs : (rules : RulesValue) (spans : Spans) (flow : List ℕ) → flow_cost (network_of rules spans) flow ≡ amounts_cost rules spans (amounts_in rules flow)
cost-of_pairs rules spans flow =
    let k : ℕ = length rules.pairs in
    let ps : ℕ = length rules.papers in
    let gs : ℕ = group_count rules in
    let rs : ℕ = length rules.reviewers in
    let whole = sum-joined (arc_parts rules spans) no_arc (λ (arc : Arc) a. pos (slice_index flow a) *ℤ arc.cost) (λ a. a) in
    let same = sum_below-equal k (λ e. pos (slice_index flow e) *ℤ spans.cost e) (λ e. pos (slice_index (amounts_in rules flow) e) *ℤ spans.cost e) (λ e lt. ap (λ x. pos x *ℤ spans.cost e) (sym (amount-in rules flow e lt))) in
    let one = sum_below-zero ps (λ p. pos (paper_flow rules flow p) *ℤ pos 0) (λ p lt. *ℤ-zero (pos (paper_flow rules flow p))) in
    let two = sum_below-zero gs (λ g. pos (group_flow rules flow g) *ℤ pos 0) (λ g lt. *ℤ-zero (pos (group_flow rules flow g))) in
    let three = sum_below-zero rs (λ r. pos (reviewer_flow rules flow r) *ℤ pos 0) (λ r lt. *ℤ-zero (pos (reviewer_flow rules flow r))) in
    omega (arith, ints, whole, same, one, two, three)

compiled-complete : (rules : RulesValue) (spans : Spans) → AreRules rules → (amounts : List ℕ) → AreWithin rules spans amounts → IsCirculation (network_of rules spans) (flow_of rules amounts)
compiled-complete rules spans are amounts within =
    let flow : List ℕ = flow_of rules amounts in
    record {
      long = flow-length rules amounts ∙ sym (arc_count rules spans);
      floors = each_arc rules spans (λ (arc : Arc) a. arc.floor ≤ slice_index flow a)
          (λ e lt. omega (arith, flow-of_pair rules amounts e lt, (within.pairs e lt).0))
          (λ p lt. omega (arith, flow-of_paper rules amounts p lt, (within.papers p lt).0))
          (λ g lt. omega (arith, flow-of_group rules amounts g lt, (within.of_groups g lt).0))
          (λ r lt. omega (arith, flow-of_reviewer rules amounts r lt, (within.reviewers r lt).0));
      rooms = each_arc rules spans (λ (arc : Arc) a. slice_index flow a ≤ arc.room)
          (λ e lt. omega (arith, flow-of_pair rules amounts e lt, (within.pairs e lt).1))
          (λ p lt. omega (arith, flow-of_paper rules amounts p lt, (within.papers p lt).1))
          (λ g lt. omega (arith, flow-of_group rules amounts g lt, (within.of_groups g lt).1))
          (λ r lt. omega (arith, flow-of_reviewer rules amounts r lt, (within.reviewers r lt).1));
      balanced = balanced-of_passes rules spans flow are (flow-passes rules amounts);
    }

compiled-same : (rules : RulesValue) (spans : Spans) (amounts : List ℕ) → AreWithin rules spans amounts → amounts_in rules (flow_of rules amounts) ≡ amounts
compiled-same rules spans amounts within =
    let k : ℕ = length rules.pairs in
    let front = take-first (part k (slice_index amounts)) (behind_pairs rules (paper_shares rules amounts) (group_shares rules amounts) (reviewer_shares rules amounts)) in
    let long = length-listed k (slice_index amounts) in
    front ∙ same_number_lists (listed k (slice_index amounts)) amounts (long ∙ sym within.long)
    (λ e lt. listed-at k e (slice_index amounts) 0 (omega arith))

compiled-only : (rules : RulesValue) (spans : Spans) → AreRules rules → (flow : List ℕ) → IsCirculation (network_of rules spans) flow → flow ≡ flow_of rules (amounts_in rules flow)
compiled-only rules spans are flow round =
    let k : ℕ = length rules.pairs in
    let ps : ℕ = length rules.papers in
    let gs : ℕ = group_count rules in
    let rs : ℕ = length rules.reviewers in
    let amounts : List ℕ = amounts_in rules flow in
    let passes = passes-of_balanced rules spans flow are round.balanced in
    let long : length (flow_of rules amounts) ≡ place_count rules = flow-length rules amounts in
    let at : (a : ℕ) → a < length (flow_of rules amounts) → slice_index flow a ≡ slice_index (flow_of rules amounts) a =
    each_amount rules amounts (λ y a. slice_index flow a ≡ y)
    (λ e lt. sym (amount-in rules flow e lt))
    (λ p lt. passes.papers p lt ∙ sym (in-sums rules flow (λ e. (pair_at rules e).paper == p)))
    (λ g lt. passes.of_groups g lt ∙ sym (in-sums rules flow (is_in_group rules g)))
    (λ r lt. passes.reviewers r lt ∙ sym (in-sums rules flow (λ e. (pair_at rules e).reviewer == r))) in
    same_number_lists flow (flow_of rules amounts) (round.long ∙ arc_count rules spans ∙ sym long) (λ a lt. at a (omega (arith, round.long, arc_count rules spans, long)))

-- the network of rules compiles them, with any bounds
pub compiled : (rules : RulesValue) (spans : Spans) → AreRules rules → Compiles rules spans (network_of rules spans)
compiled rules spans are = record {
  sound = compiled-sound rules spans are;
  cost = λ flow round. cost-of_pairs rules spans flow;
  complete = compiled-complete rules spans are;
  same = compiled-same rules spans;
  only = compiled-only rules spans are;
}
