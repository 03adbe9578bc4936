-- Answers: those whose lists match the rules, those that are certified or blocked, and rounded assignments.
use Rattle.std.specs.Prelude.{◌≡◌, ℕ, ◌+◌, ◌/◌, ◌%◌, ◌<◌, ◌≤◌, ◌⊎◌, ◌==◌, min, Bool, List, length, All, slice_index, ℤ, pos, neg_ℤ, ◌≤ℤ◌}
use Rattle.match_rules.specs.declared.answer.Answer.{Answer}
use Rattle.match_rules.specs.declared.answer.Answer.TheVariants.{Lottery, Infeasible}
use Rattle.match_rules.specs.declared.answer.Blocked.{Blocked}
use Rattle.match_rules.specs.declared.answer.Cut.{Cut}
use Rattle.match_rules.specs.declared.answer.Level.{Level}
use Rattle.match_rules.specs.declared.answer.Level.TheVariants.{Unasked, Free, At}
use Rattle.match_rules.specs.declared.answer.Mode.{Mode}
use Rattle.match_rules.specs.declared.answer.Mode.TheVariants.{Whole, Fair}
use Rattle.match_rules.specs.declared.answer.Prices.{Prices}
use Rattle.match_rules.specs.declared.answer.Sieve.TheVariants.{All as EveryPair, Above}
use Rattle.match_rules.specs.declared.answer.Winning.{Winning}
use Rattle.match_rules.specs.declared.lottery.Piece.{Piece}
use Rattle.match_rules.specs.declared.answer.TheConstants.{MOST_PRICE, MOST_TOTAL}
use Rattle.match_rules.specs.Rules.{RulesValue, most_score, pair_at}
use Rattle.match_rules.specs.Groups.{group_count, is_in_group}
use Rattle.match_rules.specs.Pieces.{DoAscend}
use Rattle.match_rules.specs.Assignments.{Fits, tickets, times, total, holds, reviewer_count, member_count}
use Rattle.match_rules.specs.Evidence.{bound, need, room, Violated}
use Rattle.match_rules.specs.Thresholds.{HasLevel, sieve_of}
use Rattle.match_rules.specs.Sums.{count_below, when}

-- a magnitude of at most the limit
abbrev pub IsWithin : ℕ → ℤ → Type 0
IsWithin limit z = (neg_ℤ (pos limit) ≤ℤ z) × (z ≤ℤ pos limit)

abbrev pub most_price : ℕ
most_price = MOST_PRICE

abbrev pub most_total : ℕ
most_total = MOST_TOTAL

-- one price, within its limit, for each of a count
abbrev pub ArePrices : ℕ → List ℤ → Type 0
ArePrices count prices = (length prices ≡ count) × All (IsWithin most_price) prices

-- places below a count that strictly ascend
abbrev pub AreMarks : ℕ → List ℕ → Type 0
AreMarks count places = All (λ place. place < count) places × DoAscend places

-- the lists of a cut are places of the rules
pub record CutMatches (rules : RulesValue) (cut : Cut) : Type 0 where
  pub papers : AreMarks (length rules.papers) cut.papers
  pub of_groups : AreMarks (group_count rules) cut.groups
  pub reviewers : AreMarks (length rules.reviewers) cut.reviewers

abbrev pub LevelMatches : RulesValue → Level → Type 0
LevelMatches rules Unasked = Unit {0}
LevelMatches rules Free = Unit {0}
LevelMatches rules (At score cut) = IsWithin most_score score × CutMatches rules cut

-- one share a pair, each of at most all tickets of the rules
abbrev pub SharesMatch : RulesValue → List ℕ → Type 0
SharesMatch rules shares = (length shares ≡ length rules.pairs) × All (λ share. share ≤ rules.tickets) shares

-- each piece holds places of the rules
abbrev pub LotteryMatches : RulesValue → List Piece → Type 0
LotteryMatches rules lottery = All (λ piece. All (λ e. e < length rules.pairs) piece.pairs) lottery

pub record PricesMatch (rules : RulesValue) (prices : Prices) : Type 0 where
  pub papers : ArePrices (length rules.papers) prices.papers
  pub of_groups : ArePrices (group_count rules) prices.groups
  pub reviewers : ArePrices (length rules.reviewers) prices.reviewers

pub record WinningMatches (rules : RulesValue) (winning : Winning) : Type 0 where
  pub level : LevelMatches rules winning.level
  pub in_all : IsWithin most_total winning.total
  pub prices : PricesMatch rules winning.prices
  pub shares : SharesMatch rules winning.shares
  pub pieces : LotteryMatches rules winning.lottery

-- all lists of an answer have the lengths of the rules, all places are in range, all numbers within their limits
abbrev pub AnswerMatches : RulesValue → Answer → Type 0
AnswerMatches rules (Lottery winning) = WinningMatches rules winning
AnswerMatches rules (Infeasible blocked) = CutMatches rules blocked.cut

-- a level is asked for in the mode fair alone
abbrev pub SuitsMode : Mode → Level → Type 0
SuitsMode Whole level = level ≡ Unasked
SuitsMode Fair level = ¬ (level ≡ Unasked)

-- in the mode fair the level is that of the rules
abbrev pub LevelIsRight : RulesValue → Mode → Level → Type 0
LevelIsRight rules Whole level = Unit {0}
LevelIsRight rules Fair level = HasLevel rules level

-- nothing fits above the score of a level
abbrev pub CutIsViolated : RulesValue → Level → Type 0
CutIsViolated rules Unasked = Unit {0}
CutIsViolated rules Free = Unit {0}
CutIsViolated rules (At score cut) = Violated rules (Above score) cut

-- a lottery with evidence for the rules in a mode: it fits what is kept, has all tickets and the printed shares, and its
-- total is the printed one and the bound of the printed prices
pub record Certified (rules : RulesValue) (mode : Mode) (winning : Winning) : Type 0 where
  pub of_mode : winning.mode ≡ mode
  pub suits : SuitsMode mode winning.level
  pub fitting : WinningMatches rules winning
  pub fits : Fits rules (sieve_of winning.level) winning.lottery
  pub whole : tickets winning.lottery ≡ rules.tickets
  pub exact : (e : ℕ) → e < length rules.pairs → times winning.lottery e ≡ slice_index winning.shares e
  pub scored : total rules winning.lottery ≡ winning.total
  pub bounded : winning.total ≡ bound rules (sieve_of winning.level) winning.prices
  pub level : LevelIsRight rules mode winning.level
  pub above : CutIsViolated rules winning.level

-- a cut whose printed numbers are its own and show that no lottery fits
pub record IsBlocked (rules : RulesValue) (blocked : Blocked) : Type 0 where
  pub fitting : CutMatches rules blocked.cut
  pub need : blocked.need ≡ need rules EveryPair blocked.cut
  pub room : blocked.room ≡ room rules EveryPair blocked.cut
  pub violated : blocked.room < blocked.need

-- a count that is an amount of tickets divided by all of them, rounded down or up
abbrev pub IsRounding : ℕ → ℕ → ℕ → Type 0
IsRounding all amount count = (count ≡ amount / all) ⊎ (count ≡ amount / all + min 1 (amount % all))

-- the shares of the pairs that pass a test
abbrev pub shares_where : RulesValue → List ℕ → (ℕ → Bool) → ℕ
shares_where rules shares test = count_below (length rules.pairs) (λ e. when (test e) (slice_index shares e))

-- an assignment of pairs of the rules in which each reviewer's count, each group's and each pair's is its sum of shares,
-- rounded down or up
pub record Rounded (rules : RulesValue) (shares places : List ℕ) : Type 0 where
  pub candidates : All (λ e. e < length rules.pairs) places
  pub reviewers : (r : ℕ) → r < length rules.reviewers → IsRounding rules.tickets (shares_where rules shares (λ e. (pair_at rules e).reviewer == r)) (reviewer_count rules places r)
  pub of_groups : (g : ℕ) → g < group_count rules → IsRounding rules.tickets (shares_where rules shares (is_in_group rules g)) (member_count rules places g)
  pub pairs : (e : ℕ) → e < length rules.pairs → IsRounding rules.tickets (slice_index shares e) (holds places e)
