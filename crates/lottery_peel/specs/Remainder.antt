-- What is left of shares while pieces are peeled off.
use Rattle.std.specs.Prelude.{ℕ, ◌<◌, ◌≤◌, List, length}
use Rattle.match_rules.specs.Rules.{RulesValue}
use Rattle.lottery_peel.specs.declared.standing.Standing.{Standing}
use Rattle.lottery_peel.specs.Standing.{IsStanding, TightAt}

-- tickets that are left, what is left of the shares of pairs, and the counts of a next assignment
pub record RemainderValue : Type 0 where
  pub rules : RulesValue
  pub left : ℕ
  pub rest : List ℕ
  pub counts : List ℕ

-- the counts stand, and while tickets are left they are those of a next assignment of what is left
pub record IsRemainder (rules : RulesValue) (left : ℕ) (rest : List ℕ) (standing : Standing) : Type 0 where
  pub fewer : left ≤ rules.tickets
  pub stands : IsStanding rules left rest standing
  pub tight : 1 ≤ left → (a : ℕ) → a < length standing.net.arcs → TightAt rules.tickets left standing a
