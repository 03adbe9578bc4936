-- Answers that match their rules, and the text of both.
use Rattle.std.specs.Prelude.{◌≡◌, ℕ, ◌<◌, ◌≤◌, List, ◌++◌, length, All}
use Rattle.match_rules.specs.declared.answer.Answer.{Answer}
use Rattle.match_rules.specs.declared.answer.Answer.TheVariants.{Lottery, Infeasible}
use Rattle.match_rules.specs.declared.answer.Blocked.{Blocked}
use Rattle.match_rules.specs.declared.answer.Level.{Level}
use Rattle.match_rules.specs.declared.answer.Level.TheVariants.{Unasked, Free, At}
use Rattle.match_rules.specs.declared.answer.Prices.{Prices}
use Rattle.match_rules.specs.declared.answer.Winning.{Winning}
use Rattle.match_rules.specs.declared.lottery.Piece.{Piece}
use Rattle.match_rules.specs.declared.rules.TheConstants.{RULES_TICKETS}
use Rattle.match_rules.specs.Answers.{AnswerMatches, AreMarks, ArePrices, IsWithin, SuitsMode, most_total}
use Rattle.match_rules.specs.Pieces.{ArePieces}
use Rattle.match_rules.specs.Rules.{RulesValue, AreRules, most_score}
use Rattle.text_lines.specs.declared.number.TheConstants.{MOST_AMOUNT}
use Rattle.publication.specs.declared.certificate.Certificate.{Certificate}
use Rattle.match_rules.specs.declared.sizes.Sizes.{Sizes}
use Rattle.publication.specs.AnswerText.{lottery_text}
use Rattle.publication.specs.InfeasibleText.{infeasible_text}
use Rattle.publication.specs.RulesText.{rules_text}

-- one price for each paper, group and reviewer
pub record ArePricesFor (sizes : Sizes) (prices : Prices) : Type 0 where
  pub papers : ArePrices sizes.papers prices.papers
  pub of_groups : ArePrices sizes.groups prices.groups
  pub reviewers : ArePrices sizes.reviewers prices.reviewers

-- one share for each of a count
abbrev pub AreShares : ℕ → List ℕ → Type 0
AreShares count shares = (length shares ≡ count) × All (λ share. share ≤ RULES_TICKETS) shares

-- one share for each pair
abbrev pub AreSharesFor : Sizes → List ℕ → Type 0
AreSharesFor sizes shares = AreShares sizes.pairs shares

-- the pieces of a lottery, with places of pairs that there are
abbrev pub ArePiecesFor : Sizes → List Piece → Type 0
ArePiecesFor sizes pieces = ArePieces pieces × All (λ piece. All (λ e. e < sizes.pairs) piece.pairs) pieces

-- marked papers, groups and reviewers
pub record AreMarked (sizes : Sizes) (papers groups reviewers : List ℕ) : Type 0 where
  pub of_papers : AreMarks sizes.papers papers
  pub of_groups : AreMarks sizes.groups groups
  pub of_reviewers : AreMarks sizes.reviewers reviewers

-- the level of a lottery: a score within its limit has a cut with a list of each kind
abbrev pub LevelFits : Sizes → Level → Type 0
LevelFits sizes Unasked = Unit {0}
LevelFits sizes Free = Unit {0}
LevelFits sizes (At score cut) = IsWithin most_score score × AreMarked sizes cut.papers cut.groups cut.reviewers

-- a lottery with a list of each size
pub record IsLotteryFor (sizes : Sizes) (winning : Winning) : Type 0 where
  pub level : LevelFits sizes winning.level
  pub total : IsWithin most_total winning.total
  pub prices : ArePricesFor sizes winning.prices
  pub shares : AreSharesFor sizes winning.shares
  pub pieces : ArePiecesFor sizes winning.lottery

-- a cut with a list of each kind, and sums of 64 bits
pub record IsBlockedFor (sizes : Sizes) (blocked : Blocked) : Type 0 where
  pub marked : AreMarked sizes blocked.cut.papers blocked.cut.groups blocked.cut.reviewers
  pub need : blocked.need ≤ MOST_AMOUNT
  pub room : blocked.room ≤ MOST_AMOUNT

-- an answer with a list of each size
abbrev pub IsAnswerFor : Sizes → Answer → Type 0
IsAnswerFor sizes (Lottery winning) = IsLotteryFor sizes winning
IsAnswerFor sizes (Infeasible blocked) = IsBlockedFor sizes blocked

-- the level of a lottery is unasked exactly in the mode whole
abbrev pub SuitsItsMode : Answer → Type 0
SuitsItsMode (Lottery winning) = SuitsMode winning.mode winning.level
SuitsItsMode (Infeasible blocked) = Unit {0}

-- what the types of an answer keep by themselves: the pieces of a lottery, sums of 64 bits of a cut
abbrev pub IsSpelled : Answer → Type 0
IsSpelled (Lottery winning) = ArePieces winning.lottery
IsSpelled (Infeasible blocked) = (blocked.need ≤ MOST_AMOUNT) × (blocked.room ≤ MOST_AMOUNT)

-- rules, and an answer that matches them, whose level is unasked exactly in the mode whole
pub record IsCertificate (rules : RulesValue) (answer : Answer) : Type 0 where
  pub rules_kept : AreRules rules
  pub suits : SuitsItsMode answer
  pub matching : AnswerMatches rules answer
  pub spelled : IsSpelled answer

-- the text of an answer
unfoldable pub answer_text : Answer → List ℕ
answer_text (Lottery winning) = lottery_text winning
answer_text (Infeasible blocked) = infeasible_text blocked

-- the text of rules and of an answer to them
unfoldable pub certificate_text : RulesValue → Answer → List ℕ
certificate_text rules answer = rules_text rules ++ answer_text answer

-- the rules and the answer of a certificate
abbrev pub parts_of : Certificate → RulesValue × Answer
parts_of certificate = (certificate.rules, certificate.answer)
