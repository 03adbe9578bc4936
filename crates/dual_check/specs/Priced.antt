-- Prices of rules.
use Rattle.std.specs.Prelude.{◌≡◌, length}
use Rattle.match_rules.specs.declared.answer.Prices.{Prices}
use Rattle.match_rules.specs.Rules.{RulesValue}
use Rattle.match_rules.specs.Groups.{group_count}

-- each paper, each group and each reviewer has a price
pub record ArePriced (rules : RulesValue) (prices : Prices) : Type 0 where
  pub papers : length prices.papers ≡ length rules.papers
  pub of_groups : length prices.groups ≡ group_count rules
  pub reviewers : length prices.reviewers ≡ length rules.reviewers
