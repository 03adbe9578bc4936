-- Assignments and lotteries over rules: what meets them, what fits, what is best.
use Rattle.std.specs.Prelude.{◌≡◌, ℕ, ◌*◌, ◌<◌, ◌≤◌, Bool, true, ◌||◌, ◌==◌, List, [], ◌∷◌, length, All, count_by, sum_by, ℤ, pos, ◌+ℤ◌, ◌*ℤ◌, ◌≤ℤ◌, int_lt, int_le}
use Rattle.match_rules.specs.declared.lottery.Piece.{Piece}
use Rattle.match_rules.specs.declared.answer.Sieve.{Sieve}
use Rattle.match_rules.specs.declared.answer.Sieve.TheVariants.{All as EveryPair, AtLeast, Above}
use Rattle.match_rules.specs.Rules.{RulesValue, paper_at, reviewer_at, pair_at, is_locked}
use Rattle.match_rules.specs.Groups.{group_count, is_in_group}
use Rattle.match_rules.specs.Sums.{when}

-- how often a list of places names a place
abbrev pub holds : List ℕ → ℕ → ℕ
holds places e = count_by (λ place. place == e) places

-- how many of the pairs are of the paper, the reviewer, the group
abbrev pub paper_count : RulesValue → List ℕ → ℕ → ℕ
paper_count rules places p = count_by (λ e. (pair_at rules e).paper == p) places

abbrev pub reviewer_count : RulesValue → List ℕ → ℕ → ℕ
reviewer_count rules places r = count_by (λ e. (pair_at rules e).reviewer == r) places

abbrev pub member_count : RulesValue → List ℕ → ℕ → ℕ
member_count rules places g = count_by (is_in_group rules g) places

-- a whole assignment meets the rules: distinct candidates, in which each paper occurs as often as it demands, each
-- reviewer from least to greatest times, each group at most limit times, and each locked pair
pub record Meets (rules : RulesValue) (places : List ℕ) : Type 0 where
  pub candidates : All (λ e. e < length rules.pairs) places
  pub distinct : (e : ℕ) → holds places e ≤ 1
  pub papers : (p : ℕ) → p < length rules.papers → paper_count rules places p ≡ (paper_at rules p).demand
  pub least : (r : ℕ) → r < length rules.reviewers → (reviewer_at rules r).least ≤ reviewer_count rules places r
  pub greatest : (r : ℕ) → r < length rules.reviewers → reviewer_count rules places r ≤ (reviewer_at rules r).greatest
  pub of_groups : (g : ℕ) → g < group_count rules → member_count rules places g ≤ rules.limit
  pub locked : (e : ℕ) → e < length rules.pairs → is_locked rules e ≡ true → holds places e ≡ 1

-- the sum of the weights, for pieces of any number
abbrev pub tickets : List Piece → ℕ
tickets lottery = sum_by (λ piece. piece.weight) lottery

-- the weights of the pieces that hold a pair
abbrev pub times : List Piece → ℕ → ℕ
times lottery e = sum_by (λ piece. piece.weight * holds piece.pairs e) lottery

-- the scores of the pairs of one assignment
abbrev pub score_of : RulesValue → List ℕ → ℤ
score_of rules [] = pos 0
score_of rules (e ∷ places) = (pair_at rules e).score +ℤ score_of rules places

-- the scores of all tickets
abbrev pub total : RulesValue → List Piece → ℤ
total rules [] = pos 0
total rules (piece ∷ lottery) = (pos piece.weight *ℤ score_of rules piece.pairs) +ℤ total rules lottery

-- whether a sieve lets a score pass
abbrev pub lets_pass : Sieve → ℤ → Bool
lets_pass EveryPair score = true
lets_pass (AtLeast least) score = int_le least score
lets_pass (Above bound) score = int_lt bound score

-- a sieve keeps the locked pairs, and of the others those whose score passes
abbrev pub keeps : RulesValue → Sieve → ℕ → Bool
keeps rules sieve e = is_locked rules e || lets_pass sieve (pair_at rules e).score

-- the greatest number of tickets of a pair under a sieve: none for a pair that isn't kept
abbrev pub cap_under : RulesValue → Sieve → ℕ → ℕ
cap_under rules sieve e = when (keeps rules sieve e) (pair_at rules e).cap

-- a lottery of any size fits the kept rules: some ticket, pieces that meet the rules, and no pair with a greater part of
-- the tickets than its cap allows
pub record Fits (rules : RulesValue) (sieve : Sieve) (lottery : List Piece) : Type 0 where
  pub some_ticket : 1 ≤ tickets lottery
  pub weights : All (λ piece. 1 ≤ piece.weight) lottery
  pub pieces : All (λ piece. Meets rules piece.pairs) lottery
  pub caps : (e : ℕ) → e < length rules.pairs → times lottery e * rules.tickets ≤ cap_under rules sieve e * tickets lottery

-- it fits, and no lottery of any size that fits has a greater score for each ticket
pub record Best (rules : RulesValue) (sieve : Sieve) (lottery : List Piece) : Type 0 where
  pub fits : Fits rules sieve lottery
  pub greatest : (other : List Piece) → Fits rules sieve other → (total rules other *ℤ pos (tickets lottery)) ≤ℤ (total rules lottery *ℤ pos (tickets other))
