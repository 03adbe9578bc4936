-- The first rows of a list keep all conditions exactly where each of them keeps those of a next row.
use Rattle.std.proofs.Common.{◌≡◌, ℕ, zero, suc, ◌+◌, ◌<◌, ◌≤◌, List, length, take, true, Some, refl, ap, arith, add-one}
use Rattle.std.proofs.lemmas.List.{get_or-take, length-take-le, take_all}
use Rattle.std.specs.declared.cmp.Ordering.TheVariants.{Less}
use Rattle.match_rules.specs.declared.rules.TheConstants.{MOST_PAPERS, MOST_REVIEWERS, MOST_PAIRS, MOST_DEMAND, MOST_DEMAND_IN_ALL, MOST_LOAD}
use Rattle.match_rules.specs.declared.rules.RulePaper.{RulePaper}
use Rattle.match_rules.specs.declared.rules.RuleReviewer.{RuleReviewer}
use Rattle.match_rules.specs.declared.rules.RulePair.{RulePair}
use Rattle.match_rules.specs.Id.{is_id, is_institution}
use Rattle.match_rules.specs.Rules.{no_paper, no_reviewer, no_pair, paper_in, reviewer_in, pair_in, id_cmp, IsPair, IsPairBefore, ArePapers, AreReviewers, ArePairs, IsFirstFault}
use Rattle.match_rules.specs.NextRows.{demand_below, IsNextPaper, IsNextReviewer, IsNextPair}
use Rattle.match_rules.proofs.SumLaws.{count_below-same, count_below-le}

-- a count, below a limit where each place below it is
pub few_below : (n limit : ℕ) → ((p : ℕ) → p < n → p < limit) → n ≤ limit
few_below zero limit each = omega arith
few_below (suc n) limit each = let last : n < limit = each n (omega arith) in omega arith

-- the papers
paper_in-take : (papers : List RulePaper) (n p : ℕ) → p < n → paper_in (take n papers) p ≡ paper_in papers p
paper_in-take papers n p h = get_or-take n papers p no_paper h

demand_below-take : (papers : List RulePaper) (n m : ℕ) → m ≤ n → demand_below (take n papers) m ≡ demand_below papers m
demand_below-take papers n m h =
    count_below-same m _ _ (λ k below. ap (λ (paper : RulePaper). paper.demand) (paper_in-take papers n k (omega arith)))

in_all_below : (papers : List RulePaper) (n : ℕ) → ((p : ℕ) → p < n → IsNextPaper papers p) → demand_below papers n ≤ MOST_DEMAND_IN_ALL
in_all_below papers zero each = omega arith
in_all_below papers (suc n) each =
    let last : demand_below papers (n + 1) ≤ MOST_DEMAND_IN_ALL = (each n (omega arith)).in_all in
    rw add-one at last

pub papers-from_rows : (papers : List RulePaper) (n : ℕ) → n ≤ length papers → ((p : ℕ) → p < n → IsNextPaper papers p) → ArePapers (take n papers)
papers-from_rows papers n h each =
    let len : length (take n papers) ≡ n = length-take-le n papers h in
    record {
      few = rw len (few_below n MOST_PAPERS (λ p below. (each p below).few));
      ids = λ p below. let at : p < n = rw len at below in rw (paper_in-take papers n p at) (each p at).id;
      ascending = λ p below.
          let at : p + 1 < n = rw len at below in
          rw (paper_in-take papers n p (omega arith), paper_in-take papers n (p + 1) at) ((each (p + 1) at).after p refl);
      demands = λ p below. let at : p < n = rw len at below in rw (paper_in-take papers n p at) (each p at).demand;
      in_all = rw (len, demand_below-take papers n n (omega arith)) (in_all_below papers n each);
    }

pub rows-from_papers : (papers : List RulePaper) (n : ℕ) → n ≤ length papers → ArePapers (take n papers) → (p : ℕ) → p < n → IsNextPaper papers p
rows-from_papers papers n h all p at =
    let len : length (take n papers) ≡ n = length-take-le n papers h in
    let within : p < length (take n papers) = rw len at in
    let few : length (take n papers) ≤ MOST_PAPERS = all.few in
    let good : is_id (paper_in (take n papers) p).id ≡ true = all.ids p within in
    let demand : (paper_in (take n papers) p).demand ≤ MOST_DEMAND = all.demands p within in
    let sum : demand_below (take n papers) (length (take n papers)) ≤ MOST_DEMAND_IN_ALL = all.in_all in
    let sum_n : demand_below papers n ≤ MOST_DEMAND_IN_ALL = rw (len, demand_below-take papers n n (omega arith)) at sum in
    let less : demand_below papers (p + 1) ≤ demand_below papers n = count_below-le n (p + 1) _ (omega arith) in
    record {
      few = omega arith;
      id = rw (paper_in-take papers n p at) at good;
      after = λ q next.
          let now : id_cmp (paper_in (take n papers) q).id (paper_in (take n papers) (q + 1)).id ≡ Less = all.ascending q (rw (len, next) at) in
          let here : id_cmp (paper_in papers q).id (paper_in papers (q + 1)).id ≡ Less = rw (paper_in-take papers n q (omega arith), paper_in-take papers n (q + 1) (omega arith)) at now in
          rw next at here;
      demand = rw (paper_in-take papers n p at) at demand;
      in_all = omega arith;
    }

-- the reviewers
reviewer_in-take : (reviewers : List RuleReviewer) (n r : ℕ) → r < n → reviewer_in (take n reviewers) r ≡ reviewer_in reviewers r
reviewer_in-take reviewers n r h = get_or-take n reviewers r no_reviewer h

pub reviewers-from_rows : (reviewers : List RuleReviewer) (n : ℕ) → n ≤ length reviewers → ((r : ℕ) → r < n → IsNextReviewer reviewers r) → AreReviewers (take n reviewers)
reviewers-from_rows reviewers n h each =
    let len : length (take n reviewers) ≡ n = length-take-le n reviewers h in
    record {
      few = rw len (few_below n MOST_REVIEWERS (λ r below. (each r below).few));
      ids = λ r below. let at : r < n = rw len at below in rw (reviewer_in-take reviewers n r at) (each r at).id;
      ascending = λ r below.
          let at : r + 1 < n = rw len at below in
          rw (reviewer_in-take reviewers n r (omega arith), reviewer_in-take reviewers n (r + 1) at) ((each (r + 1) at).after r refl);
      loads = λ r below. let at : r < n = rw len at below in rw (reviewer_in-take reviewers n r at) (each r at).loads;
      institutions = λ r name below. let at : r < n = rw len at below in rw (reviewer_in-take reviewers n r at) ((each r at).institution name);
    }

pub rows-from_reviewers : (reviewers : List RuleReviewer) (n : ℕ) → n ≤ length reviewers → AreReviewers (take n reviewers) → (r : ℕ) → r < n → IsNextReviewer reviewers r
rows-from_reviewers reviewers n h all r at =
    let len : length (take n reviewers) ≡ n = length-take-le n reviewers h in
    let within : r < length (take n reviewers) = rw len at in
    let few : length (take n reviewers) ≤ MOST_REVIEWERS = all.few in
    let good : is_id (reviewer_in (take n reviewers) r).id ≡ true = all.ids r within in
    let loads : ((reviewer_in (take n reviewers) r).least ≤ (reviewer_in (take n reviewers) r).greatest) × ((reviewer_in (take n reviewers) r).greatest ≤ MOST_LOAD) = all.loads r within in
    let named : (name : List ℕ) → (reviewer_in (take n reviewers) r).institution ≡ Some name → is_institution name ≡ true = λ name. all.institutions r name within in
    record {
      few = omega arith;
      id = rw (reviewer_in-take reviewers n r at) at good;
      after = λ q next.
          let now : id_cmp (reviewer_in (take n reviewers) q).id (reviewer_in (take n reviewers) (q + 1)).id ≡ Less = all.ascending q (rw (len, next) at) in
          let here : id_cmp (reviewer_in reviewers q).id (reviewer_in reviewers (q + 1)).id ≡ Less = rw (reviewer_in-take reviewers n q (omega arith), reviewer_in-take reviewers n (q + 1) (omega arith)) at now in
          rw next at here;
      loads = rw (reviewer_in-take reviewers n r at) at loads;
      institution = rw (reviewer_in-take reviewers n r at) at named;
    }

-- the pairs
pair_in-take : (pairs : List RulePair) (n e : ℕ) → e < n → pair_in (take n pairs) e ≡ pair_in pairs e
pair_in-take pairs n e h = get_or-take n pairs e no_pair h

pub pairs-from_rows : (tickets papers reviewers : ℕ) (pairs : List RulePair) (n : ℕ) → n ≤ length pairs → ((e : ℕ) → e < n → IsNextPair tickets papers reviewers pairs e)
    → ArePairs tickets papers reviewers (take n pairs)
pairs-from_rows tickets papers reviewers pairs n h each =
    let len : length (take n pairs) ≡ n = length-take-le n pairs h in
    record {
      few = rw len (few_below n MOST_PAIRS (λ e below. (each e below).few));
      each = λ e below. let at : e < n = rw len at below in rw (pair_in-take pairs n e at) (each e at).is_pair;
      ascending = λ e below.
          let at : e + 1 < n = rw len at below in
          rw (pair_in-take pairs n e (omega arith), pair_in-take pairs n (e + 1) at) ((each (e + 1) at).after e refl);
    }

pub rows-from_pairs : (tickets papers reviewers : ℕ) (pairs : List RulePair) (n : ℕ) → n ≤ length pairs → ArePairs tickets papers reviewers (take n pairs)
    → (e : ℕ) → e < n → IsNextPair tickets papers reviewers pairs e
rows-from_pairs tickets papers reviewers pairs n h all e at =
    let len : length (take n pairs) ≡ n = length-take-le n pairs h in
    let within : e < length (take n pairs) = rw len at in
    let few : length (take n pairs) ≤ MOST_PAIRS = all.few in
    let here : IsPair tickets papers reviewers (pair_in (take n pairs) e) = all.each e within in
    record {
      few = omega arith;
      is_pair = rw (pair_in-take pairs n e at) at here;
      after = λ q next.
          let now : IsPairBefore (pair_in (take n pairs) q) (pair_in (take n pairs) (q + 1)) = all.ascending q (rw (len, next) at) in
          let there : IsPairBefore (pair_in pairs q) (pair_in pairs (q + 1)) = rw (pair_in-take pairs n q (omega arith), pair_in-take pairs n (q + 1) (omega arith)) at now in
          rw next at there;
    }

-- all papers, reviewers and pairs, and the first that breaks a condition
pub all_papers : (papers : List RulePaper) → ((p : ℕ) → p < length papers → IsNextPaper papers p) → ArePapers papers
all_papers papers each = rw (take_all (length papers) papers (omega arith)) at (papers-from_rows papers (length papers) (omega arith) each)

pub all_rows_of_papers : (papers : List RulePaper) → ArePapers papers → (p : ℕ) → p < length papers → IsNextPaper papers p
all_rows_of_papers papers all =
    rows-from_papers papers (length papers) (omega arith) (rw (take_all (length papers) papers (omega arith)) all)

pub first_paper : (papers : List RulePaper) (p : ℕ) → p < length papers → ((q : ℕ) → q < p → IsNextPaper papers q) → ¬ (IsNextPaper papers p)
    → IsFirstFault (λ n. ArePapers (take n papers)) (length papers) p
first_paper papers p within before breaks = record {
  within = within;
  before = papers-from_rows papers p (omega arith) before;
  breaks = λ all. breaks (rows-from_papers papers (p + 1) (omega arith) all p (omega arith));
}

pub all_reviewers : (reviewers : List RuleReviewer) → ((r : ℕ) → r < length reviewers → IsNextReviewer reviewers r) → AreReviewers reviewers
all_reviewers reviewers each = rw (take_all (length reviewers) reviewers (omega arith)) at (reviewers-from_rows reviewers (length reviewers) (omega arith) each)

pub all_rows_of_reviewers : (reviewers : List RuleReviewer) → AreReviewers reviewers → (r : ℕ) → r < length reviewers → IsNextReviewer reviewers r
all_rows_of_reviewers reviewers all =
    rows-from_reviewers reviewers (length reviewers) (omega arith) (rw (take_all (length reviewers) reviewers (omega arith)) all)

pub first_reviewer : (reviewers : List RuleReviewer) (r : ℕ) → r < length reviewers → ((q : ℕ) → q < r → IsNextReviewer reviewers q) → ¬ (IsNextReviewer reviewers r)
    → IsFirstFault (λ n. AreReviewers (take n reviewers)) (length reviewers) r
first_reviewer reviewers r within before breaks = record {
  within = within;
  before = reviewers-from_rows reviewers r (omega arith) before;
  breaks = λ all. breaks (rows-from_reviewers reviewers (r + 1) (omega arith) all r (omega arith));
}

pub all_pairs : (tickets papers reviewers : ℕ) (pairs : List RulePair) → ((e : ℕ) → e < length pairs → IsNextPair tickets papers reviewers pairs e) → ArePairs tickets papers reviewers pairs
all_pairs tickets papers reviewers pairs each = rw (take_all (length pairs) pairs (omega arith)) at (pairs-from_rows tickets papers reviewers pairs (length pairs) (omega arith) each)

pub all_rows_of_pairs : (tickets papers reviewers : ℕ) (pairs : List RulePair) → ArePairs tickets papers reviewers pairs → (e : ℕ) → e < length pairs → IsNextPair tickets papers reviewers pairs e
all_rows_of_pairs tickets papers reviewers pairs all =
    rows-from_pairs tickets papers reviewers pairs (length pairs) (omega arith) (rw (take_all (length pairs) pairs (omega arith)) all)

pub first_pair : (tickets papers reviewers : ℕ) (pairs : List RulePair) (e : ℕ) → e < length pairs → ((q : ℕ) → q < e → IsNextPair tickets papers reviewers pairs q)
    → ¬ (IsNextPair tickets papers reviewers pairs e)
    → IsFirstFault (λ n. ArePairs tickets papers reviewers (take n pairs)) (length pairs) e
first_pair tickets papers reviewers pairs e within before breaks = record {
  within = within;
  before = pairs-from_rows tickets papers reviewers pairs e (omega arith) before;
  breaks = λ all. breaks (rows-from_pairs tickets papers reviewers pairs (e + 1) (omega arith) all e (omega arith));
}
