-- The rules of one edition, as contracts see them, and the conditions that they keep.
use Rattle.std.specs.Prelude.{◌≡◌, ℕ, zero, suc, ◌+◌, ◌<◌, ◌≤◌, ◌⊎◌, Bool, true, ◌==◌, if◌then◌else◌, List, [], ◌∷◌, ◌++◌, length, slice_index_or, Some, None, pos, neg_ℤ, ◌≤ℤ◌}
use Rattle.std.specs.Cmp.Lexicographic.{slice_cmp}
use Rattle.std.specs.Ordering.{nat_cmp}
use Rattle.std.specs.declared.cmp.Ordering.{Ordering}
use Rattle.std.specs.declared.cmp.Ordering.TheVariants.{Less}
use Rattle.match_rules.specs.declared.rules.RulePaper.{RulePaper}
use Rattle.match_rules.specs.declared.rules.RuleReviewer.{RuleReviewer}
use Rattle.match_rules.specs.declared.rules.RulePair.{RulePair}
use Rattle.match_rules.specs.declared.rules.TheConstants.{RULES_TICKETS, MOST_PAPERS, MOST_REVIEWERS, MOST_PAIRS, MOST_DEMAND, MOST_DEMAND_IN_ALL, MOST_LOAD, MOST_LIMIT, MOST_SCORE}
use Rattle.match_rules.specs.Id.{is_id, is_institution}
use Rattle.match_rules.specs.Sums.{count_below}

-- the rules of an edition; places are those of the three lists
pub record RulesValue : Type 0 where
  pub tickets : ℕ
  pub limit : ℕ
  pub papers : List RulePaper
  pub reviewers : List RuleReviewer
  pub pairs : List RulePair

abbrev pub no_paper : RulePaper
no_paper = record { id = []; demand = 0 }

abbrev pub no_reviewer : RuleReviewer
no_reviewer = record { id = []; institution = None; least = 0; greatest = 0 }

abbrev pub no_pair : RulePair
no_pair = record { paper = 0; reviewer = 0; score = pos 0; floor = 0; cap = 0 }

-- what stands at a place
abbrev pub paper_in : List RulePaper → ℕ → RulePaper
paper_in papers p = slice_index_or papers p no_paper

abbrev pub reviewer_in : List RuleReviewer → ℕ → RuleReviewer
reviewer_in reviewers r = slice_index_or reviewers r no_reviewer

abbrev pub pair_in : List RulePair → ℕ → RulePair
pair_in pairs e = slice_index_or pairs e no_pair

abbrev pub paper_at : RulesValue → ℕ → RulePaper
paper_at rules p = paper_in rules.papers p

abbrev pub reviewer_at : RulesValue → ℕ → RuleReviewer
reviewer_at rules r = reviewer_in rules.reviewers r

abbrev pub pair_at : RulesValue → ℕ → RulePair
pair_at rules e = pair_in rules.pairs e

-- ids ascend by their bytes
abbrev pub id_cmp : List ℕ → List ℕ → Ordering
id_cmp a b = slice_cmp nat_cmp a b

-- one pair stands before another: by the place of the paper, and then that of the reviewer
abbrev pub IsPairBefore : RulePair → RulePair → Type 0
IsPairBefore a b = (a.paper < b.paper) ⊎ ((a.paper ≡ b.paper) × (a.reviewer < b.reviewer))

-- the reviewers that all papers together need
abbrev pub demand_total : List RulePaper → ℕ
demand_total papers = count_below (length papers) (λ p. (paper_in papers p).demand)

-- 1 to 1,500 reviewers of an institution for a paper
abbrev pub IsLimit : ℕ → Type 0
IsLimit limit = (1 ≤ limit) × (limit ≤ MOST_LIMIT)

-- at most 1,500 papers with ids that strictly ascend, each of demand at most 100, and 4,500 in all
pub record ArePapers (papers : List RulePaper) : Type 0 where
  pub few : length papers ≤ MOST_PAPERS
  pub ids : (p : ℕ) → p < length papers → is_id (paper_in papers p).id ≡ true
  pub ascending : (p : ℕ) → p + 1 < length papers → id_cmp (paper_in papers p).id (paper_in papers (p + 1)).id ≡ Less
  pub demands : (p : ℕ) → p < length papers → (paper_in papers p).demand ≤ MOST_DEMAND
  pub in_all : demand_total papers ≤ MOST_DEMAND_IN_ALL

-- at most 1,500 reviewers with ids that strictly ascend, each with the name of an institution or none, and with a least
-- load of at most the greatest, which is at most 1,500
pub record AreReviewers (reviewers : List RuleReviewer) : Type 0 where
  pub few : length reviewers ≤ MOST_REVIEWERS
  pub ids : (r : ℕ) → r < length reviewers → is_id (reviewer_in reviewers r).id ≡ true
  pub ascending : (r : ℕ) → r + 1 < length reviewers → id_cmp (reviewer_in reviewers r).id (reviewer_in reviewers (r + 1)).id ≡ Less
  pub loads : (r : ℕ) → r < length reviewers → ((reviewer_in reviewers r).least ≤ (reviewer_in reviewers r).greatest) × ((reviewer_in reviewers r).greatest ≤ MOST_LOAD)
  pub institutions : (r : ℕ) (name : List ℕ) → r < length reviewers → (reviewer_in reviewers r).institution ≡ Some name → is_institution name ≡ true

-- the greatest magnitude of a score
abbrev pub most_score : ℕ
most_score = MOST_SCORE

-- a pair of known places, with a score within its limits and tickets from its floor, which is none or all, to its cap,
-- which is at most all
pub record IsPair (tickets papers reviewers : ℕ) (pair : RulePair) : Type 0 where
  pub paper : pair.paper < papers
  pub reviewer : pair.reviewer < reviewers
  pub low : neg_ℤ (pos most_score) ≤ℤ pair.score
  pub high : pair.score ≤ℤ pos most_score
  pub whole : (pair.floor ≡ 0) ⊎ (pair.floor ≡ tickets)
  pub ordered : pair.floor ≤ pair.cap
  pub within : pair.cap ≤ tickets

-- at most 250,000 pairs that strictly ascend
pub record ArePairs (tickets papers reviewers : ℕ) (pairs : List RulePair) : Type 0 where
  pub few : length pairs ≤ MOST_PAIRS
  pub each : (e : ℕ) → e < length pairs → IsPair tickets papers reviewers (pair_in pairs e)
  pub ascending : (e : ℕ) → e + 1 < length pairs → IsPairBefore (pair_in pairs e) (pair_in pairs (e + 1))

-- what the rules of an edition keep
pub record AreRules (rules : RulesValue) : Type 0 where
  pub tickets : rules.tickets ≡ RULES_TICKETS
  pub limit : IsLimit rules.limit
  pub papers : ArePapers rules.papers
  pub reviewers : AreReviewers rules.reviewers
  pub pairs : ArePairs rules.tickets (length rules.papers) (length rules.reviewers) rules.pairs

-- a locked pair has all tickets as its floor
abbrev pub is_locked : RulesValue → ℕ → Bool
is_locked rules e = (pair_at rules e).floor == rules.tickets

-- the places of the locked pairs below a count, ascending
abbrev pub locked_below : RulesValue → ℕ → List ℕ
locked_below rules zero = []
locked_below rules (suc n) = if is_locked rules n then locked_below rules n ++ (n ∷ []) else locked_below rules n

unfoldable pub locked_places : RulesValue → List ℕ
locked_places rules = locked_below rules (length rules.pairs)

-- the rules of a number of tickets, a limit and three lists
abbrev pub rules_value : ℕ → ℕ → List RulePaper → List RuleReviewer → List RulePair → RulesValue
rules_value tickets limit papers reviewers pairs = record { tickets = tickets; limit = limit; papers = papers; reviewers = reviewers; pairs = pairs }

-- the first place at which a list, up to and with it, breaks a condition
pub record IsFirstFault (holds_below : ℕ → Type 0) (count place : ℕ) : Type 0 where
  pub within : place < count
  pub before : holds_below place
  pub breaks : ¬ (holds_below (place + 1))
