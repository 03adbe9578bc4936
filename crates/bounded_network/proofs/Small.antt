-- The network of rules is within the limits of a network.
use Rattle.std.proofs.Common.{◌≡◌, ℕ, suc, ◌+◌, ◌-◌, ◌*◌, ◌/◌, ◌%◌, ◌<◌, ◌≤◌, ◌⊎◌, Bool, true, false, List, length, sym, arith, inl, inr}
use Rattle.std.specs.Prelude.{neg_ℤ, ◌≤ℤ◌, ◌||◌, slice_index}
use Rattle.std.proofs.lemmas.Int.{ints}
use Rattle.std.proofs.lemmas.Bool.{eq-eqb}
use Rattle.std.proofs.Math.Nat.{div-add-mod}
use Rattle.match_rules.specs.declared.answer.Sieve.{Sieve}
use Rattle.match_rules.specs.declared.rules.TheConstants.{MOST_TICKETS, MOST_PAPERS, MOST_REVIEWERS, MOST_PAIRS, MOST_LOAD}
use Rattle.match_rules.specs.Rules.{RulesValue, AreRules, paper_at, reviewer_at, pair_at, is_locked}
use Rattle.match_rules.specs.Groups.{group_count}
use Rattle.match_rules.specs.Answers.{shares_where}
use Rattle.match_rules.specs.Assignments.{keeps, lets_pass, cap_under}
use Rattle.match_rules.specs.SharesFit.{paper_shares, group_shares, reviewer_shares}
use Rattle.match_rules.specs.Sums.{when}
use Rattle.match_rules.proofs.GroupLaws.{group_count_few}
use Rattle.bounded_network.specs.declared.network.TheConstants.{MAX_ROOM, MAX_COST}
use Rattle.bounded_network.specs.declared.network.Arc.{Arc}
use Rattle.bounded_network.specs.declared.spans.Span.{Span}
use Rattle.bounded_network.specs.Network.{IsNetwork, IsArc}
use Rattle.bounded_network.specs.Spans.{Spans, rounded, ticket_spans, rounded_spans}
use Rattle.bounded_network.specs.Compile.{network_of, node_count}
use Rattle.bounded_network.specs.Totals.{AreWords}
use Rattle.bounded_network.proofs.Sums.{count_below-at_most}
use Rattle.bounded_network.proofs.Compiled.{arc_count, each_arc}
use Rattle.bounded_network.proofs.Nodes.{tail-below, group-paper-below}

-- a floor of at most the room, and a room within the limit
pub record IsSmall (bounds : Span) : Type 0 where
  pub ordered : bounds.floor ≤ bounds.room
  pub room : bounds.room ≤ MAX_ROOM

-- bounds that a network may have
pub record AreSmall (rules : RulesValue) (spans : Spans) : Type 0 where
  pub pairs : (e : ℕ) → e < length rules.pairs → IsSmall (spans.pairs e)
  pub papers : (p : ℕ) → p < length rules.papers → IsSmall (spans.papers p)
  pub of_groups : (g : ℕ) → g < group_count rules → IsSmall (spans.of_groups g)
  pub reviewers : (r : ℕ) → r < length rules.reviewers → IsSmall (spans.reviewers r)
  pub cost_low : (e : ℕ) → e < length rules.pairs → neg_ℤ MAX_COST ≤ℤ spans.cost e
  pub cost_high : (e : ℕ) → e < length rules.pairs → spans.cost e ≤ℤ MAX_COST

pub network-of_small : (rules : RulesValue) (spans : Spans) → AreRules rules → AreSmall rules spans → IsNetwork (network_of rules spans)
network-of_small rules spans are small =
    let papers : length rules.papers ≤ MOST_PAPERS = are.papers.few in
    let reviewers : length rules.reviewers ≤ MOST_REVIEWERS = are.reviewers.few in
    let pairs : length rules.pairs ≤ MOST_PAIRS = are.pairs.few in
    let groups : group_count rules ≤ length rules.pairs = group_count_few rules in
    record {
      few_nodes = omega arith;
      few_arcs = omega (arith, arc_count rules spans);
      each = each_arc rules spans (λ (arc : Arc) a. IsArc (node_count rules) arc)
          (λ e lt. record {
            tail = omega (arith, tail-below rules e are lt);
            head = omega (arith, (are.pairs.each e lt).reviewer);
            floor = (small.pairs e lt).ordered;
            room = (small.pairs e lt).room;
            cost_low = small.cost_low e lt;
            cost_high = small.cost_high e lt;
          })
          (λ p lt. record {
            tail = omega arith;
            head = omega arith;
            floor = (small.papers p lt).ordered;
            room = (small.papers p lt).room;
            cost_low = omega (arith, ints);
            cost_high = omega (arith, ints);
          })
          (λ g lt. record {
            tail = omega (arith, group-paper-below rules g are lt);
            head = omega arith;
            floor = (small.of_groups g lt).ordered;
            room = (small.of_groups g lt).room;
            cost_low = omega (arith, ints);
            cost_high = omega (arith, ints);
          })
          (λ r lt. record {
            tail = omega arith;
            head = omega arith;
            floor = (small.reviewers r lt).ordered;
            room = (small.reviewers r lt).room;
            cost_low = omega (arith, ints);
            cost_high = omega (arith, ints);
          });
    }

-- ---- tickets

-- a pair that isn't kept has no floor, and every floor is at most what the sieve leaves
pub floor-under : (rules : RulesValue) (sieve : Sieve) (e : ℕ) → AreRules rules → e < length rules.pairs → (pair_at rules e).floor ≤ cap_under rules sieve e
floor-under rules sieve e are lt =
    let pair = are.pairs.each e lt in
    by pair.whole pair.ordered (lets_pass sieve (pair_at rules e).score)
  where
    by : ((pair_at rules e).floor ≡ 0) ⊎ ((pair_at rules e).floor ≡ rules.tickets) → (pair_at rules e).floor ≤ (pair_at rules e).cap → (b : Bool)
        → (pair_at rules e).floor ≤ when (is_locked rules e || b) (pair_at rules e).cap
    by (inl none) h b = omega (arith, none)
    by (inr all) h b = rw (eq-eqb (pair_at rules e).floor rules.tickets all) h

pub when-at_most : (b : Bool) (x : ℕ) → when b x ≤ x
when-at_most true x = omega arith
when-at_most false x = omega arith

scaled-small : (tickets x : ℕ) → tickets ≡ MOST_TICKETS → x ≤ MOST_LOAD → tickets * x ≤ MAX_ROOM
scaled-small tickets x is few = rw is (omega arith)

scaled-ordered : (tickets x y : ℕ) → tickets ≡ MOST_TICKETS → x ≤ y → tickets * x ≤ tickets * y
scaled-ordered tickets x y is le = rw is (omega arith)

pub tickets-small : (rules : RulesValue) (sieve : Sieve) → AreRules rules → AreSmall rules (ticket_spans rules sieve)
tickets-small rules sieve are = record {
  pairs = λ e lt. record { ordered = floor-under rules sieve e are lt; room = omega (arith, when-at_most (keeps rules sieve e) (pair_at rules e).cap, (are.pairs.each e lt).within, are.tickets) };
  papers = λ p lt. record { ordered = omega arith; room = scaled-small rules.tickets (paper_at rules p).demand are.tickets (omega (arith, are.papers.demands p lt)) };
  of_groups = λ g lt. record { ordered = omega arith; room = scaled-small rules.tickets rules.limit are.tickets are.limit.1 };
  reviewers = λ r lt. record {
    ordered = scaled-ordered rules.tickets (reviewer_at rules r).least (reviewer_at rules r).greatest are.tickets (are.reviewers.loads r lt).0;
    room = scaled-small rules.tickets (reviewer_at rules r).greatest are.tickets (are.reviewers.loads r lt).1;
  };
  cost_low = λ e lt. let high = (are.pairs.each e lt).high in omega (arith, ints);
  cost_high = λ e lt. let low = (are.pairs.each e lt).low in omega (arith, ints);
}

-- ---- rounded amounts

pub rounded-at_most : (left amount : ℕ) → 1 ≤ left → (rounded left amount).room ≤ amount
rounded-at_most left amount some =
    let q : ℕ = amount / left in
    let r : ℕ = amount % left in
    let whole : left * q + r ≡ amount = div-add-mod amount left in
    let l : ℕ = left - 1 in
    let e : left ≡ suc l = omega arith in
    let m : suc l * q ≡ q + l * q = omega arith in
    let whole2 : suc l * q + r ≡ amount = rw (sym e) whole in
    omega arith

pub rounded-small : (left amount : ℕ) → 1 ≤ left → amount ≤ MAX_ROOM → IsSmall (rounded left amount)
rounded-small left amount some few = record {
  ordered = omega arith;
  room = omega (arith, rounded-at_most left amount some);
}

pub sum-small : (rules : RulesValue) (shares : List ℕ) (test : ℕ → Bool) → AreRules rules → AreWords shares → shares_where rules shares test ≤ MAX_ROOM
sum-small rules shares test are words =
    let most = count_below-at_most (length rules.pairs) (λ e. when (test e) (slice_index shares e)) 4294967296
    (λ e lt. omega (arith, when-at_most (test e) (slice_index shares e), words e)) in
    omega (arith, most, are.pairs.few)

pub rounded-spans-small : (rules : RulesValue) (shares : List ℕ) (left : ℕ) → AreRules rules → 1 ≤ left → AreWords shares → AreSmall rules (rounded_spans rules shares left)
rounded-spans-small rules shares left are some words = record {
  pairs = λ e lt. rounded-small left (slice_index shares e) some (omega (arith, words e));
  papers = λ p lt. rounded-small left (paper_shares rules shares p) some (sum-small rules shares _ are words);
  of_groups = λ g lt. rounded-small left (group_shares rules shares g) some (sum-small rules shares _ are words);
  reviewers = λ r lt. rounded-small left (reviewer_shares rules shares r) some (sum-small rules shares _ are words);
  cost_low = λ e lt. omega (arith, ints);
  cost_high = λ e lt. omega (arith, ints);
}
