-- The bound of the prices of optimal potentials is the score of the shares.
use Rattle.std.proofs.Common.{◌≡◌, ℕ, zero, suc, ◌+◌, ◌*◌, ◌<◌, ◌≤◌, ◌⊎◌, Bool, true, false, List, length, Option, Some, None, refl, sym, ap, ◌∙◌, arith, inl, inr}
use Rattle.std.specs.Prelude.{ℤ, pos, negsuc, neg_ℤ, ◌+ℤ◌, ◌-ℤ◌, ◌*ℤ◌, ◌≤ℤ◌, slice_index}
use Rattle.std.specs.Int.{int_max}
use Rattle.std.specs.Option.{option_map_or}
use Rattle.std.proofs.lemmas.Int.{ints, clamps}
use Rattle.std.proofs.lemmas.Bool.{cases_lt}
use Rattle.std.proofs.Math.IntN.{zero-*ℤ, *ℤ-zero}
use Rattle.match_rules.specs.declared.answer.Prices.{Prices}
use Rattle.match_rules.specs.declared.answer.Sieve.{Sieve}
use Rattle.match_rules.specs.Rules.{RulesValue, AreRules, paper_at, reviewer_at, pair_at}
use Rattle.match_rules.specs.Groups.{group_count, group_of, paper_of_group}
use Rattle.match_rules.specs.Assignments.{keeps, cap_under}
use Rattle.match_rules.specs.Evidence.{bound, rest, price_at, most_at, paper_part, group_part, reviewer_part, pair_part}
use Rattle.match_rules.specs.SharesFit.{shares_score}
use Rattle.match_rules.specs.Sums.{sum_below, when, int_when}
use Rattle.match_rules.proofs.GroupLaws.{group_of_below, group_of_paper}
use Rattle.bounded_network.specs.declared.network.Arc.{Arc}
use Rattle.bounded_network.specs.Network.{NetworkValue, IsNetwork, IsCirculation, AreOptimal, arc_at, no_arc, flow_cost, reduced_cost, potential_at}
use Rattle.bounded_network.specs.Spans.{Spans, ticket_spans, amounts_cost}
use Rattle.bounded_network.specs.Compile.{network_of, amounts_in, group_node, reviewer_node, pair_arc, paper_arc, group_arc, reviewer_arc}
use Rattle.bounded_network.specs.Back.{prices_in, paper_price_in, group_price_in, reviewer_price_in}
use Rattle.bounded_network.proofs.Scaled.{scale-suc, scale--ℤ, scale_by_sum, scale_not_negative, scale_more, scale_less}
use Rattle.bounded_network.proofs.Sums.{sum_below-equal}
use Rattle.bounded_network.proofs.Parts.{sum-joined, listed-at}
use Rattle.bounded_network.proofs.Laws.{flow_cost-reduced}
use Rattle.bounded_network.proofs.Compiled.{arc_parts, cost-of_pairs}
use Rattle.bounded_network.proofs.Small.{floor-under, network-of_small, tickets-small}

-- ---- products

scale_twice : (m n : ℕ) (z : ℤ) → pos (m * n) *ℤ z ≡ pos m *ℤ (pos n *ℤ z)
scale_twice zero n z =
    let e : zero * n ≡ 0 = omega arith in
    rw e (zero-*ℤ z ∙ sym (zero-*ℤ (pos n *ℤ z)))
scale_twice (suc m) n z =
    let e : suc m * n ≡ m * n + n = omega arith in
    rw e (omega (arith, ints, scale_by_sum (m * n) n z, scale-suc m (pos n *ℤ z), scale_twice m n z))

scale_neg : (n : ℕ) (z : ℤ) → pos n *ℤ neg_ℤ z ≡ neg_ℤ (pos n *ℤ z)
scale_neg zero z = rw (zero-*ℤ (neg_ℤ z), zero-*ℤ z) refl
scale_neg (suc n) z = omega (arith, ints, scale-suc n (neg_ℤ z), scale-suc n z, scale_neg n z)

scale_order : (n : ℕ) (z w : ℤ) → z ≤ℤ w → (pos n *ℤ z) ≤ℤ (pos n *ℤ w)
scale_order n z w le =
    let gap = scale_not_negative n (w -ℤ z) (omega (arith, ints)) in
    omega (arith, ints, scale--ℤ n w z)

either_way : (z w : ℤ) → (z ≤ℤ w) ⊎ (w ≤ℤ z)
either_way z w = by (w -ℤ z) refl
  where
    by : (d : ℤ) → w -ℤ z ≡ d → (z ≤ℤ w) ⊎ (w ≤ℤ z)
    by (pos n) is = inl (omega (arith, ints, is))
    by (negsuc n) is = inr (omega (arith, ints, is))

scale_max : (n : ℕ) (z w : ℤ) → pos n *ℤ int_max z w ≡ int_max (pos n *ℤ z) (pos n *ℤ w)
scale_max n z w = elim (either_way z w) [
  | inl le ↦
      let e : int_max z w ≡ w = omega (arith, ints, clamps) in
      let m = scale_order n z w le in
      ap (λ y. pos n *ℤ y) e ∙ omega (arith, ints, clamps)
  | inr le ↦
      let e : int_max z w ≡ z = omega (arith, ints, clamps) in
      let m = scale_order n w z le in
      ap (λ y. pos n *ℤ y) e ∙ omega (arith, ints, clamps)
]

most-scaled : (t least greatest : ℕ) (z : ℤ) → most_at (t * least) (t * greatest) z ≡ pos t *ℤ most_at least greatest z
most-scaled t least greatest z =
    rw (scale_twice t least z, scale_twice t greatest z) (sym (scale_max t (pos least *ℤ z) (pos greatest *ℤ z)))

most-of_one : (n : ℕ) (z : ℤ) → most_at n n z ≡ pos n *ℤ z
most-of_one n z = omega (arith, ints, clamps)

most-from_zero : (n : ℕ) (z : ℤ) → most_at 0 n z ≡ pos n *ℤ int_max (pos 0) z
most-from_zero n z = rw (scale_max n (pos 0) z, *ℤ-zero (pos n), zero-*ℤ z) refl

sum-scaled : (t n : ℕ) (f : ℕ → ℤ) → sum_below n (λ i. pos t *ℤ f i) ≡ pos t *ℤ sum_below n f
sum-scaled t zero f = sym (*ℤ-zero (pos t))
sum-scaled t (suc n) f = omega (arith, ints, sum-scaled t n f, split)
  where
    split : pos t *ℤ (sum_below n f +ℤ f n) ≡ (pos t *ℤ sum_below n f) +ℤ (pos t *ℤ f n)
    split = omega (arith, ints, scale--ℤ t (sum_below n f +ℤ f n) (f n), same)
      where
        same : pos t *ℤ ((sum_below n f +ℤ f n) -ℤ f n) ≡ pos t *ℤ sum_below n f
        same = let e : (sum_below n f +ℤ f n) -ℤ f n ≡ sum_below n f = omega (arith, ints) in ap (λ y. pos t *ℤ y) e

-- ---- at one arc

-- an optimal amount makes the most of what a unit gives, minus the reduced cost
optimal-most : (x floor room : ℕ) (r : ℤ) → floor ≤ x → x ≤ room → (x < room → pos 0 ≤ℤ r) → (floor < x → r ≤ℤ pos 0) → most_at floor room (neg_ℤ r) ≡ neg_ℤ (pos x *ℤ r)
optimal-most x floor room r fx xr up down =
    let a = scale_neg floor r in
    let b = scale_neg room r in
    elim (cases_lt x room) [
      | inl rise ↦
          let sign = up rise in
          let low : (pos floor *ℤ r) ≤ℤ (pos x *ℤ r) = scale_more floor x r fx sign in
          let high : (pos x *ℤ r) ≤ℤ (pos room *ℤ r) = scale_more x room r xr sign in
          elim (cases_lt floor x) [
            | inl fall ↦
                let none : r ≡ pos 0 = omega (arith, ints, sign, down fall) in
                let z : (n : ℕ) → pos n *ℤ r ≡ pos 0 = λ n. ap (λ y. pos n *ℤ y) none ∙ *ℤ-zero (pos n) in
                omega (arith, ints, clamps, a, b, z floor, z room, z x)
            | inr still ↦
                let same : floor ≡ x = omega arith in
                let e : pos floor *ℤ r ≡ pos x *ℤ r = ap (λ n. pos n *ℤ r) same in
                omega (arith, ints, clamps, a, b, e, high)
          ]
      | inr full ↦
          let same : room ≡ x = omega arith in
          let e : pos room *ℤ r ≡ pos x *ℤ r = ap (λ n. pos n *ℤ r) same in
          elim (cases_lt floor x) [
            | inl fall ↦
                let low : (pos x *ℤ r) ≤ℤ (pos floor *ℤ r) = scale_less floor x r fx (down fall) in
                omega (arith, ints, clamps, a, b, e, low)
            | inr still ↦
                let same2 : floor ≡ x = omega arith in
                let e2 : pos floor *ℤ r ≡ pos x *ℤ r = ap (λ n. pos n *ℤ r) same2 in
                omega (arith, ints, clamps, a, b, e, e2)
          ]
    ]

-- ---- the parts of the bound

-- minus the reduced cost of an arc
abbrev pub gain : List ℤ → Arc → ℤ
gain potentials arc = neg_ℤ ((arc.cost +ℤ potential_at potentials arc.tail) -ℤ potential_at potentials arc.head)

gain-of_pair : (rules : RulesValue) (sieve : Sieve) (potentials : List ℤ) (e : ℕ) → AreRules rules → e < length rules.pairs
    → gain potentials (pair_arc rules (ticket_spans rules sieve) e) ≡ rest rules (prices_in rules potentials) e
gain-of_pair rules sieve potentials e are lt =
    let pair = are.pairs.each e lt in
    let p : ℕ = (pair_at rules e).paper in
    let r : ℕ = (pair_at rules e).reviewer in
    let paper = listed-at (length rules.papers) p (paper_price_in rules potentials) (pos 0) pair.paper in
    let reviewer = listed-at (length rules.reviewers) r (reviewer_price_in rules potentials) (pos 0) pair.reviewer in
    let prices : Prices = prices_in rules potentials in
    by (group_of rules e) refl paper reviewer
  where
    by : (place : Option ℕ) → group_of rules e ≡ place
        → price_at (prices_in rules potentials).papers (pair_at rules e).paper ≡ paper_price_in rules potentials (pair_at rules e).paper
        → price_at (prices_in rules potentials).reviewers (pair_at rules e).reviewer ≡ reviewer_price_in rules potentials (pair_at rules e).reviewer
        → neg_ℤ ((neg_ℤ (pair_at rules e).score +ℤ potential_at potentials (option_map_or (group_node rules) place (pair_at rules e).paper)) -ℤ potential_at potentials (reviewer_node rules (pair_at rules e).reviewer))
        ≡ (((pair_at rules e).score -ℤ price_at (prices_in rules potentials).papers (pair_at rules e).paper) -ℤ option_map_or (price_at (prices_in rules potentials).groups) place (pos 0))
        -ℤ price_at (prices_in rules potentials).reviewers (pair_at rules e).reviewer
    by None is paper reviewer = omega (arith, ints, paper, reviewer)
    by (Some g) is paper reviewer =
        let own = listed-at (group_count rules) g (group_price_in rules potentials) (pos 0) (group_of_below rules e g is) in
        let same : potential_at potentials (paper_of_group rules g) ≡ potential_at potentials (pair_at rules e).paper = ap (potential_at potentials) (group_of_paper rules e g is) in
        omega (arith, ints, paper, reviewer, own, same)

pair-part : (rules : RulesValue) (sieve : Sieve) (e : ℕ) (z : ℤ) → AreRules rules → e < length rules.pairs
    → most_at (pair_at rules e).floor (cap_under rules sieve e) z ≡ int_when (keeps rules sieve e) (most_at (pair_at rules e).floor (pair_at rules e).cap z)
pair-part rules sieve e z are lt = by (keeps rules sieve e) (floor-under rules sieve e are lt)
  where
    by : (b : Bool) → (pair_at rules e).floor ≤ when b (pair_at rules e).cap → most_at (pair_at rules e).floor (when b (pair_at rules e).cap) z ≡ int_when b (most_at (pair_at rules e).floor (pair_at rules e).cap z)
    by true h = refl
    by false h =
        let none : (pair_at rules e).floor ≡ 0 = omega arith in
        rw none (most-of_one 0 z ∙ zero-*ℤ z)

-- what the arcs give at most, together, is the bound
pub bound-is_sum : (rules : RulesValue) (sieve : Sieve) (potentials : List ℤ) → AreRules rules →
    sum_below (length (network_of rules (ticket_spans rules sieve)).arcs) (λ a. most_at (arc_at (network_of rules (ticket_spans rules sieve)) a).floor (arc_at (network_of rules (ticket_spans rules sieve)) a).room (gain potentials (arc_at (network_of rules (ticket_spans rules sieve)) a)))
    ≡ bound rules sieve (prices_in rules potentials)
bound-is_sum rules sieve potentials are =
    let k : ℕ = length rules.pairs in
    let ps : ℕ = length rules.papers in
    let gs : ℕ = group_count rules in
    let rs : ℕ = length rules.reviewers in
    let t : ℕ = rules.tickets in
    let spans : Spans = ticket_spans rules sieve in
    let prices : Prices = prices_in rules potentials in
    let most : Arc → ℤ = λ (arc : Arc). most_at arc.floor arc.room (gain potentials arc) in
    let whole = sum-joined (arc_parts rules spans) no_arc (λ (arc : Arc) a. most arc) (λ a. a) in
    let pairs : sum_below k (λ e. most (pair_arc rules spans e)) ≡ pair_part rules sieve prices =
    sum_below-equal k (λ e. most (pair_arc rules spans e)) (λ e. int_when (keeps rules sieve e) (most_at (pair_at rules e).floor (pair_at rules e).cap (rest rules prices e)))
    (λ e lt. ap (λ z. most_at (pair_at rules e).floor (cap_under rules sieve e) z) (gain-of_pair rules sieve potentials e are lt) ∙ pair-part rules sieve e (rest rules prices e) are lt) in
    let papers : sum_below ps (λ p. most (paper_arc rules spans p)) ≡ pos t *ℤ paper_part rules prices =
    sum_below-equal ps (λ p. most (paper_arc rules spans p)) (λ p. pos t *ℤ (pos (paper_at rules p).demand *ℤ price_at prices.papers p))
    (λ p lt.
    let price = listed-at ps p (paper_price_in rules potentials) (pos 0) lt in
    let is : gain potentials (paper_arc rules spans p) ≡ price_at prices.papers p = omega (arith, ints, price) in
    ap (λ z. most_at (t * (paper_at rules p).demand) (t * (paper_at rules p).demand) z) is
    ∙ most-of_one (t * (paper_at rules p).demand) (price_at prices.papers p)
    ∙ scale_twice t (paper_at rules p).demand (price_at prices.papers p))
    ∙ sum-scaled t ps (λ p. pos (paper_at rules p).demand *ℤ price_at prices.papers p) in
    let groups : sum_below gs (λ g. most (group_arc rules spans g)) ≡ pos t *ℤ group_part rules prices =
    sum_below-equal gs (λ g. most (group_arc rules spans g)) (λ g. pos t *ℤ (pos rules.limit *ℤ int_max (pos 0) (price_at prices.groups g)))
    (λ g lt.
    let price = listed-at gs g (group_price_in rules potentials) (pos 0) lt in
    let is : gain potentials (group_arc rules spans g) ≡ price_at prices.groups g = omega (arith, ints, price) in
    ap (λ z. most_at 0 (t * rules.limit) z) is
    ∙ most-from_zero (t * rules.limit) (price_at prices.groups g)
    ∙ scale_twice t rules.limit (int_max (pos 0) (price_at prices.groups g)))
    ∙ sum-scaled t gs (λ g. pos rules.limit *ℤ int_max (pos 0) (price_at prices.groups g)) in
    let reviewers : sum_below rs (λ r. most (reviewer_arc rules spans r)) ≡ pos t *ℤ reviewer_part rules prices =
    sum_below-equal rs (λ r. most (reviewer_arc rules spans r)) (λ r. pos t *ℤ most_at (reviewer_at rules r).least (reviewer_at rules r).greatest (price_at prices.reviewers r))
    (λ r lt.
    let price = listed-at rs r (reviewer_price_in rules potentials) (pos 0) lt in
    let is : gain potentials (reviewer_arc rules spans r) ≡ price_at prices.reviewers r = omega (arith, ints, price) in
    ap (λ z. most_at (t * (reviewer_at rules r).least) (t * (reviewer_at rules r).greatest) z) is
    ∙ most-scaled t (reviewer_at rules r).least (reviewer_at rules r).greatest (price_at prices.reviewers r))
    ∙ sum-scaled t rs (λ r. most_at (reviewer_at rules r).least (reviewer_at rules r).greatest (price_at prices.reviewers r)) in
    let one = scaled_sum t (paper_part rules prices +ℤ group_part rules prices) (reviewer_part rules prices) in
    let two = scaled_sum t (paper_part rules prices) (group_part rules prices) in
    omega (arith, ints, whole, pairs, papers, groups, reviewers, one, two)
  where
    scaled_sum : (t : ℕ) (z w : ℤ) → pos t *ℤ (z +ℤ w) ≡ (pos t *ℤ z) +ℤ (pos t *ℤ w)
    scaled_sum zero z w = rw (zero-*ℤ (z +ℤ w), zero-*ℤ z, zero-*ℤ w) refl
    scaled_sum (suc t) z w = omega (arith, ints, scale-suc t (z +ℤ w), scale-suc t z, scale-suc t w, scaled_sum t z w)

score-is_cost : (rules : RulesValue) (sieve : Sieve) (amounts : List ℕ) → amounts_cost rules (ticket_spans rules sieve) amounts ≡ neg_ℤ (shares_score rules amounts)
score-is_cost rules sieve amounts =
    sum_below-equal (length rules.pairs) (λ e. pos (slice_index amounts e) *ℤ neg_ℤ (pair_at rules e).score) (λ e. neg_ℤ (pos (slice_index amounts e) *ℤ (pair_at rules e).score)) (λ e lt. scale_neg (slice_index amounts e) (pair_at rules e).score)
    ∙ minus (length rules.pairs) (λ e. pos (slice_index amounts e) *ℤ (pair_at rules e).score)
  where
    minus : (n : ℕ) (f : ℕ → ℤ) → sum_below n (λ i. neg_ℤ (f i)) ≡ neg_ℤ (sum_below n f)
    minus zero f = refl
    minus (suc n) f = omega (arith, ints, minus n f)

-- the cost of a circulation for tickets is minus its score
pub cost-is_score : (rules : RulesValue) (sieve : Sieve) (flow : List ℕ)
    → flow_cost (network_of rules (ticket_spans rules sieve)) flow ≡ neg_ℤ (shares_score rules (amounts_in rules flow))
cost-is_score rules sieve flow = cost-of_pairs rules (ticket_spans rules sieve) flow ∙ score-is_cost rules sieve (amounts_in rules flow)

-- the bound of the prices of potentials is the score of each circulation that is optimal at them
pub bound-is_score : (rules : RulesValue) (sieve : Sieve) (potentials : List ℤ) → AreRules rules → (flow : List ℕ)
    → IsCirculation (network_of rules (ticket_spans rules sieve)) flow → AreOptimal (network_of rules (ticket_spans rules sieve)) flow potentials
    → bound rules sieve (prices_in rules potentials) ≡ shares_score rules (amounts_in rules flow)
bound-is_score rules sieve potentials are flow round best =
    let net : NetworkValue = network_of rules (ticket_spans rules sieve) in
    let m : ℕ = length net.arcs in
    let good : IsNetwork net = network-of_small rules (ticket_spans rules sieve) are (tickets-small rules sieve are) in
    let r : ℕ → ℤ = reduced_cost net potentials in
    let cost = cost-is_score rules sieve flow in
    let reduced = flow_cost-reduced net flow potentials good round in
    let whole = bound-is_sum rules sieve potentials are in
    let each = sum_below-equal m (λ a. most_at (arc_at net a).floor (arc_at net a).room (gain potentials (arc_at net a))) (λ a. neg_ℤ (pos (slice_index flow a) *ℤ r a))
    (λ a lt. optimal-most (slice_index flow a) (arc_at net a).floor (arc_at net a).room (r a) (round.floors a lt) (round.rooms a lt) (best.may_rise a lt) (best.may_fall a lt)) in
    omega (arith, ints, cost, reduced, whole, each, minus m (λ a. pos (slice_index flow a) *ℤ r a))
  where
    minus : (n : ℕ) (f : ℕ → ℤ) → sum_below n (λ i. neg_ℤ (f i)) ≡ neg_ℤ (sum_below n f)
    minus zero f = refl
    minus (suc n) f = omega (arith, ints, minus n f)
