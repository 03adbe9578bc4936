-- What rules came to: a certified lottery of few pieces, or a cut that forbids every lottery.
use Rattle.std.specs.Prelude.{◌≡◌, ◌+◌, ◌≤◌, List, length, All}
use Rattle.match_rules.specs.declared.answer.Answer.{Answer}
use Rattle.match_rules.specs.declared.answer.Answer.TheVariants.{Lottery, Infeasible}
use Rattle.match_rules.specs.declared.answer.Blocked.{Blocked}
use Rattle.match_rules.specs.declared.answer.Level.{Level}
use Rattle.match_rules.specs.declared.answer.Mode.{Mode}
use Rattle.match_rules.specs.declared.answer.Sieve.TheVariants.{All as EveryPair}
use Rattle.match_rules.specs.declared.answer.Winning.{Winning}
use Rattle.match_rules.specs.declared.lottery.Piece.{Piece}
use Rattle.match_rules.specs.Rules.{RulesValue}
use Rattle.match_rules.specs.Answers.{Certified, CutIsViolated, IsBlocked, LevelIsRight, LevelMatches, Rounded, SuitsMode}
use Rattle.match_rules.specs.Assignments.{Fits}
use Rattle.match_rules.specs.Thresholds.{CanFit, sieve_of}
use Rattle.lottery_peel.specs.Peeling.{unwhole_count}

-- what a verdict holds
pub record VerdictValue : Type 0 where
  pub rules : RulesValue
  pub mode : Mode
  pub answer : Answer

-- a level that a certified lottery may have in a mode, once some lottery is known to fit under its sieve
pub record IsLevelFor (rules : RulesValue) (mode : Mode) (level : Level) : Type 0 where
  pub suits : SuitsMode mode level
  pub known : LevelMatches rules level
  pub right : CanFit rules (sieve_of level) → LevelIsRight rules mode level
  pub above : CutIsViolated rules level

-- a certified lottery: each piece is rounded from its shares, and there is at most one piece more than there are pairs,
-- groups and reviewers with a sum of shares that is no multiple of the tickets
pub record IsWon (rules : RulesValue) (mode : Mode) (winning : Winning) : Type 0 where
  pub certified : Certified rules mode winning
  pub rounded : All (λ piece. Rounded rules winning.shares piece.pairs) winning.lottery
  pub few : length winning.lottery ≤ 1 + unwhole_count rules winning.shares

-- no lottery of any size fits
abbrev pub NoneFits : RulesValue → Type 0
NoneFits rules = (lottery : List Piece) → ¬ (Fits rules EveryPair lottery)

-- a cut with its numbers, which show that no lottery fits
pub record IsForbidden (rules : RulesValue) (mode : Mode) (blocked : Blocked) : Type 0 where
  pub of_mode : blocked.mode ≡ mode
  pub shown : IsBlocked rules blocked
  pub none : NoneFits rules

-- the answer is right for the rules and the mode
abbrev pub IsVerdict : RulesValue → Mode → Answer → Type 0
IsVerdict rules mode (Lottery winning) = IsWon rules mode winning
IsVerdict rules mode (Infeasible blocked) = IsForbidden rules mode blocked

-- a fact of the lottery with its evidence, where there is one
abbrev pub IfLottery : Answer → (Winning → Type 0) → Type 0
IfLottery (Lottery winning) P = P winning
IfLottery (Infeasible blocked) P = Unit {0}

-- the answer has a lottery
abbrev pub IsLottery : Answer → Type 0
IsLottery (Lottery winning) = Unit {0}
IsLottery (Infeasible blocked) = ⊥

-- the answer has none
abbrev pub IsInfeasible : Answer → Type 0
IsInfeasible (Lottery winning) = ⊥
IsInfeasible (Infeasible blocked) = Unit {0}
