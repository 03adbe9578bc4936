-- What a row has to keep that follows rows which keep all conditions.
use Rattle.std.specs.Prelude.{◌≡◌, ℕ, ◌+◌, ◌<◌, ◌≤◌, true, List, Some}
use Rattle.std.specs.declared.cmp.Ordering.TheVariants.{Less}
use Rattle.match_rules.specs.declared.rules.RulePaper.{RulePaper}
use Rattle.match_rules.specs.declared.rules.RuleReviewer.{RuleReviewer}
use Rattle.match_rules.specs.declared.rules.RulePair.{RulePair}
use Rattle.match_rules.specs.declared.rules.TheConstants.{MOST_PAPERS, MOST_REVIEWERS, MOST_PAIRS, MOST_DEMAND, MOST_DEMAND_IN_ALL, MOST_LOAD}
use Rattle.match_rules.specs.Id.{is_id, is_institution}
use Rattle.match_rules.specs.Rules.{paper_in, reviewer_in, pair_in, id_cmp, IsPair, IsPairBefore}
use Rattle.match_rules.specs.Sums.{count_below}

-- the demands of the papers below a place
abbrev pub demand_below : List RulePaper → ℕ → ℕ
demand_below papers p = count_below p (λ q. (paper_in papers q).demand)

-- the paper at a place
pub record IsNextPaper (papers : List RulePaper) (p : ℕ) : Type 0 where
  pub few : p < MOST_PAPERS
  pub id : is_id (paper_in papers p).id ≡ true
  pub after : (q : ℕ) → q + 1 ≡ p → id_cmp (paper_in papers q).id (paper_in papers p).id ≡ Less
  pub demand : (paper_in papers p).demand ≤ MOST_DEMAND
  pub in_all : demand_below papers (p + 1) ≤ MOST_DEMAND_IN_ALL

-- the reviewer at a place
pub record IsNextReviewer (reviewers : List RuleReviewer) (r : ℕ) : Type 0 where
  pub few : r < MOST_REVIEWERS
  pub id : is_id (reviewer_in reviewers r).id ≡ true
  pub after : (q : ℕ) → q + 1 ≡ r → id_cmp (reviewer_in reviewers q).id (reviewer_in reviewers r).id ≡ Less
  pub loads : ((reviewer_in reviewers r).least ≤ (reviewer_in reviewers r).greatest) × ((reviewer_in reviewers r).greatest ≤ MOST_LOAD)
  pub institution : (name : List ℕ) → (reviewer_in reviewers r).institution ≡ Some name → is_institution name ≡ true

-- the pair at a place
pub record IsNextPair (tickets papers reviewers : ℕ) (pairs : List RulePair) (e : ℕ) : Type 0 where
  pub few : e < MOST_PAIRS
  pub is_pair : IsPair tickets papers reviewers (pair_in pairs e)
  pub after : (q : ℕ) → q + 1 ≡ e → IsPairBefore (pair_in pairs q) (pair_in pairs e)
