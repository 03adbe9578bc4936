-- The three lists of rules, with the conditions that rules keep.
use Rattle.std.specs.Prelude.{List, length}
use Rattle.match_rules.specs.declared.rules.RulePaper.{RulePaper}
use Rattle.match_rules.specs.declared.rules.RuleReviewer.{RuleReviewer}
use Rattle.match_rules.specs.declared.rules.RulePair.{RulePair}
use Rattle.match_rules.specs.declared.rules.TheConstants.{RULES_TICKETS}
use Rattle.match_rules.specs.Rules.{ArePapers, AreReviewers, ArePairs}

pub record AreLists (ps : List RulePaper) (rs : List RuleReviewer) (es : List RulePair) : Type 0 where
  pub papers : ArePapers ps
  pub reviewers : AreReviewers rs
  pub pairs : ArePairs RULES_TICKETS (length ps) (length rs) es
