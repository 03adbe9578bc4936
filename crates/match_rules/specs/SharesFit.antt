-- Shares of the pairs that fit rules, counted in tickets, before whole assignments are made of them.
use Rattle.std.specs.Prelude.{◌≡◌, ℕ, ◌*◌, ◌<◌, ◌≤◌, ◌==◌, List, length, slice_index, ℤ, pos, ◌*ℤ◌}
use Rattle.match_rules.specs.declared.answer.Sieve.{Sieve}
use Rattle.match_rules.specs.declared.lottery.Piece.{Piece}
use Rattle.match_rules.specs.Rules.{RulesValue, paper_at, reviewer_at, pair_at}
use Rattle.match_rules.specs.Groups.{group_count, is_in_group}
use Rattle.match_rules.specs.Assignments.{cap_under, times}
use Rattle.match_rules.specs.Answers.{shares_where}
use Rattle.match_rules.specs.Sums.{sum_below}

-- the shares of the pairs of a paper, a group, a reviewer
abbrev pub paper_shares : RulesValue → List ℕ → ℕ → ℕ
paper_shares rules shares p = shares_where rules shares (λ e. (pair_at rules e).paper == p)

abbrev pub group_shares : RulesValue → List ℕ → ℕ → ℕ
group_shares rules shares g = shares_where rules shares (is_in_group rules g)

abbrev pub reviewer_shares : RulesValue → List ℕ → ℕ → ℕ
reviewer_shares rules shares r = shares_where rules shares (λ e. (pair_at rules e).reviewer == r)

-- a lottery that gives each pair its share of the tickets
abbrev pub HasShares : RulesValue → List ℕ → List Piece → Type 0
HasShares rules shares lottery = (e : ℕ) → e < length rules.pairs → times lottery e ≡ slice_index shares e

-- the scores of the pairs, each times its share
abbrev pub shares_score : RulesValue → List ℕ → ℤ
shares_score rules shares = sum_below (length rules.pairs) (λ e. pos (slice_index shares e) *ℤ (pair_at rules e).score)

-- one share a pair: each paper's are all tickets for each reviewer that it demands, each group's at most all tickets
-- times the limit, each reviewer's all tickets times the least to the greatest load, and each pair's from its floor to
-- its cap, which is 0 for a pair that isn't kept
pub record SharesFit (rules : RulesValue) (sieve : Sieve) (shares : List ℕ) : Type 0 where
  pub long : length shares ≡ length rules.pairs
  pub papers : (p : ℕ) → p < length rules.papers → paper_shares rules shares p ≡ rules.tickets * (paper_at rules p).demand
  pub of_groups : (g : ℕ) → g < group_count rules → group_shares rules shares g ≤ rules.tickets * rules.limit
  pub least : (r : ℕ) → r < length rules.reviewers → rules.tickets * (reviewer_at rules r).least ≤ reviewer_shares rules shares r
  pub greatest : (r : ℕ) → r < length rules.reviewers → reviewer_shares rules shares r ≤ rules.tickets * (reviewer_at rules r).greatest
  pub floors : (e : ℕ) → e < length rules.pairs → (pair_at rules e).floor ≤ slice_index shares e
  pub caps : (e : ℕ) → e < length rules.pairs → slice_index shares e ≤ cap_under rules sieve e
