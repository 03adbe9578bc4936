-- The flow of amounts at a step: what is given of the pairs is given of their sums.
use Rattle.std.proofs.Common.{◌≡◌, ℕ, zero, suc, ◌+◌, ◌*◌, ◌<◌, ◌≤◌, Bool, true, false, List, length, refl, sym, ap, ◌∙◌, subst, arith}
use Rattle.std.specs.Prelude.{◌==◌, slice_index}
use Rattle.std.proofs.lemmas.List.{length-take-le}
use Rattle.std.proofs.Math.Nat.{mul-mod_right}
use Rattle.match_rules.specs.Rules.{RulesValue, pair_at, paper_at}
use Rattle.match_rules.specs.Groups.{is_in_group}
use Rattle.match_rules.specs.Answers.{shares_where}
use Rattle.match_rules.specs.SharesFit.{paper_shares, group_shares, reviewer_shares}
use Rattle.match_rules.specs.Sums.{count_below, when}
use Rattle.bounded_network.specs.Compile.{amounts_in, paper_place, group_place, reviewer_place, flow_of}
use Rattle.bounded_network.specs.Spans.{AreWithin, IsBetween, rounded, rounded_spans}
use Rattle.bounded_network.proofs.Compiled.{amount-in, each_amount, flow_parts, flow-length, flow-of_pair, flow-of_paper, flow-of_group, flow-of_reviewer}
use Rattle.bounded_network.proofs.Counts.{count_below-zero}
use Rattle.bounded_network.proofs.Parts.{count-joined}
use Rattle.lottery_peel.specs.Peeling.{open_part, open_count, unwhole_count, AreRounded, AreLess, IsNext, IsWeight}
use Rattle.lottery_peel.proofs.AmountLists.{all-enough}

-- ---- what is given

when-taken : (b : Bool) (new count old weight : ℕ) → new + weight * count ≡ old → when b new + weight * when b count ≡ when b old
when-taken true new count old weight less = less
when-taken false new count old weight less = omega arith

sum-taken : (n : ℕ) (test : ℕ → Bool) (new counts old : ℕ → ℕ) (weight : ℕ) → ((e : ℕ) → e < n → new e + weight * counts e ≡ old e)
    → count_below n (λ e. when (test e) (new e)) + weight * count_below n (λ e. when (test e) (counts e)) ≡ count_below n (λ e. when (test e) (old e))
sum-taken zero test new counts old weight less = omega arith
sum-taken (suc n) test new counts old weight less =
    let first = sum-taken n test new counts old weight (λ e lt. less e (omega arith)) in
    let last = when-taken (test n) (new n) (counts n) (old n) weight (less n (omega arith)) in
    let split : weight * (count_below n (λ e. when (test e) (counts e)) + when (test n) (counts n)) ≡ weight * count_below n (λ e. when (test e) (counts e)) + weight * when (test n) (counts n) = omega arith in
    omega (arith, first, last, split)

shares-taken : (rules : RulesValue) (rest counts new : List ℕ) (weight : ℕ) (test : ℕ → Bool) → length rest ≡ length rules.pairs → AreLess rest counts new weight
    → shares_where rules new test + weight * shares_where rules counts test ≡ shares_where rules rest test
shares-taken rules rest counts new weight test long less =
    sum-taken (length rules.pairs) test (slice_index new) (slice_index counts) (slice_index rest) weight (λ e lt. less.each e (omega arith))

-- what is given of the pairs is given of everything
pub flow-less : (rules : RulesValue) (rest counts new : List ℕ) (weight : ℕ) → length rest ≡ length rules.pairs → counts ≡ flow_of rules (amounts_in rules counts)
    → AreLess rest (amounts_in rules counts) new weight → AreLess (flow_of rules rest) counts (flow_of rules new) weight
flow-less rules rest counts new weight long flows less =
    let chosen : List ℕ = amounts_in rules counts in
    let each : (a : ℕ) → a < length (flow_of rules rest) → slice_index (flow_of rules new) a + weight * slice_index (flow_of rules chosen) a ≡ slice_index (flow_of rules rest) a =
    each_amount rules rest (λ y a. slice_index (flow_of rules new) a + weight * slice_index (flow_of rules chosen) a ≡ y)
    (λ e lt. rw (flow-of_pair rules new e lt, flow-of_pair rules chosen e lt) (less.each e (omega arith)))
    (λ p lt. rw (flow-of_paper rules new p lt, flow-of_paper rules chosen p lt) (shares-taken rules rest chosen new weight (λ e. (pair_at rules e).paper == p) long less))
    (λ g lt. rw (flow-of_group rules new g lt, flow-of_group rules chosen g lt) (shares-taken rules rest chosen new weight (is_in_group rules g) long less))
    (λ r lt. rw (flow-of_reviewer rules new r lt, flow-of_reviewer rules chosen r lt) (shares-taken rules rest chosen new weight (λ e. (pair_at rules e).reviewer == r) long less)) in
    record {
      long = flow-length rules new ∙ sym (flow-length rules rest);
      same = ap length flows ∙ flow-length rules chosen ∙ sym (flow-length rules rest);
      each = λ a lt. subst (λ xs. slice_index (flow_of rules new) a + weight * slice_index xs a ≡ slice_index (flow_of rules rest) a) (sym flows) (each a lt);
    }

-- ---- rounded counts

-- where all counts are rounded amounts, the pairs' are, and so are their sums
pub within-rounded : (rules : RulesValue) (shares : List ℕ) (left : ℕ) (counts : List ℕ) → AreRounded left (flow_of rules shares) counts
    → counts ≡ flow_of rules (amounts_in rules counts) → AreWithin rules (rounded_spans rules shares left) (amounts_in rules counts)
within-rounded rules shares left counts rounds flows =
    let chosen : List ℕ = amounts_in rules counts in
    let k : ℕ = length rules.pairs in
    let size = flow-length rules shares in
    let long = rounds.long in
    let at : (a x y : ℕ) → a < length (flow_of rules shares) → slice_index (flow_of rules shares) a ≡ x → slice_index counts a ≡ y → IsBetween (rounded left x) y =
    λ a x y lt here there. subst (λ z. IsBetween (rounded left z) y) here (subst (λ z. IsBetween (rounded left (slice_index (flow_of rules shares) a)) z) there (rounds.each a lt)) in
    record {
      long = length-take-le k counts (omega arith);
      pairs = λ e lt. at e _ _ (omega arith) (flow-of_pair rules shares e lt) (sym (amount-in rules counts e lt));
      papers = λ p lt. at (paper_place rules p) _ _ (omega arith) (flow-of_paper rules shares p lt) (ap (λ xs. slice_index xs (paper_place rules p)) flows ∙ flow-of_paper rules chosen p lt);
      of_groups = λ g lt. at (group_place rules g) _ _ (omega arith) (flow-of_group rules shares g lt) (ap (λ xs. slice_index xs (group_place rules g)) flows ∙ flow-of_group rules chosen g lt);
      reviewers = λ r lt. at (reviewer_place rules r) _ _ (omega arith) (flow-of_reviewer rules shares r lt) (ap (λ xs. slice_index xs (reviewer_place rules r)) flows ∙ flow-of_reviewer rules chosen r lt);
    }

-- and the way back: a flow whose pairs and sums are rounded amounts is a next assignment
pub next-of_within : (rules : RulesValue) (rest : List ℕ) (left : ℕ) (counts : List ℕ) → AreWithin rules (rounded_spans rules rest left) (amounts_in rules counts)
    → counts ≡ flow_of rules (amounts_in rules counts) → IsNext rules rest left counts
next-of_within rules rest left counts within flows =
    let chosen : List ℕ = amounts_in rules counts in
    let k : ℕ = length rules.pairs in
    record {
      rounds = record {
        long = ap length flows ∙ flow-length rules chosen ∙ sym (flow-length rules rest);
        each = each_amount rules rest (λ y a. IsBetween (rounded left y) (slice_index counts a))
            (λ e lt. subst (IsBetween (rounded left (slice_index rest e))) (amount-in rules counts e lt) (within.pairs e lt))
            (λ p lt. subst (IsBetween (rounded left (paper_shares rules rest p))) (sym (ap (λ xs. slice_index xs (paper_place rules p)) flows ∙ flow-of_paper rules chosen p lt)) (within.papers p lt))
            (λ g lt. subst (IsBetween (rounded left (group_shares rules rest g))) (sym (ap (λ xs. slice_index xs (group_place rules g)) flows ∙ flow-of_group rules chosen g lt)) (within.of_groups g lt))
            (λ r lt. subst (IsBetween (rounded left (reviewer_shares rules rest r))) (sym (ap (λ xs. slice_index xs (reviewer_place rules r)) flows ∙ flow-of_reviewer rules chosen r lt)) (within.reviewers r lt));
      };
      flows = flows;
    }

-- there is enough of each pair for the counts of a next assignment, for as many tickets as it may stand
pub next-enough : (rules : RulesValue) (rest : List ℕ) (left : ℕ) (counts : List ℕ) (weight : ℕ) → length rest ≡ length rules.pairs → IsNext rules rest left counts
    → IsWeight left (flow_of rules rest) counts (length (flow_of rules rest)) weight → (e : ℕ) → e < length rest → weight * slice_index (amounts_in rules counts) e ≤ slice_index rest e
next-enough rules rest left counts weight long is weighs e lt =
    let pair : e < length rules.pairs = omega arith in
    let size = flow-length rules rest in
    let enough = all-enough left (flow_of rules rest) counts weight is.rounds weighs e (omega arith) in
    rw (amount-in rules counts e pair) (rw (flow-of_pair rules rest e pair) at enough)

-- ---- open amounts

-- papers are whole, so the open amounts are those of pairs, groups and reviewers
pub flow-open : (rules : RulesValue) (shares : List ℕ) → ((p : ℕ) → p < length rules.papers → paper_shares rules shares p ≡ rules.tickets * (paper_at rules p).demand)
    → open_count rules.tickets (flow_of rules shares) ≡ unwhole_count rules shares
flow-open rules shares whole =
    let parts = count-joined (flow_parts rules shares) 0 (λ y a. open_part rules.tickets y) (λ a. a) in
    let none = count_below-zero (length rules.papers) (λ p. open_part rules.tickets (paper_shares rules shares p))
    (λ p lt. rw (whole p lt, mul-mod_right rules.tickets (paper_at rules p).demand) refl) in
    omega (arith, parts, none)
