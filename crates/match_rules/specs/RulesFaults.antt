-- Which fault rules are refused for.
use Rattle.std.specs.Prelude.{length, take}
use Rattle.match_rules.specs.declared.rules.RulesFault.{RulesFault}
use Rattle.match_rules.specs.declared.rules.RulesFault.TheVariants.{Limit, Papers, Reviewers, Pairs, Memory}
use Rattle.match_rules.specs.Rules.{RulesValue, IsLimit, ArePapers, AreReviewers, ArePairs, IsFirstFault}

-- the first part, in the order limit, papers, reviewers, pairs, that breaks a condition, and its first place that does
abbrev pub IsFaultOf : RulesFault → RulesValue → Type 0
IsFaultOf Limit rules = ¬ (IsLimit rules.limit)
IsFaultOf (Papers place) rules =
    IsLimit rules.limit
    × IsFirstFault (λ n. ArePapers (take n rules.papers)) (length rules.papers) place
IsFaultOf (Reviewers place) rules =
    IsLimit rules.limit × ArePapers rules.papers
    × IsFirstFault (λ n. AreReviewers (take n rules.reviewers)) (length rules.reviewers) place
IsFaultOf (Pairs place) rules =
    IsLimit rules.limit × ArePapers rules.papers × AreReviewers rules.reviewers
    × IsFirstFault (λ n. ArePairs rules.tickets (length rules.papers) (length rules.reviewers) (take n rules.pairs)) (length rules.pairs) place
IsFaultOf Memory rules = Unit {0}
