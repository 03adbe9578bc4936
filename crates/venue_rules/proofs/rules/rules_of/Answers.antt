use Rattle.std.proofs.Common.{◌≤◌, arith, subst, sym}
use Rattle.match_rules.specs.Rules.{RulesValue}
use Rattle.std.specs.Prelude.{Result}
use Rattle.venue_rules.specs.declared.fault.LimitFault.{LimitFault}
use Rattle.venue_rules.specs.Parts.{AnswersRules}
use Rattle.venue_rules.specs.VenueRules.{demand_sum}
use Rattle.venue_rules.proofs.AnswerLaws.{too_much, not_too_much}
use Rattle.venue_rules.proofs.rules.rules_of.Goals as goal

pub returns-then-sum : goal.returns-then-sum
returns-then-sum c = too_much c.args.tables.now c.demand_sum-sum.result c.demand_sum-sum.ensures c.if-sum.true

pub returns : goal.returns
returns c =
    let venue = c.args.tables.now in
    let few : demand_sum venue venue.papers ≤ 4500 = omega (arith, c.demand_sum-sum.ensures, c.if-sum.false) in
    subst (λ (said : Result RulesValue LimitFault). AnswersRules c.unlocked.result said) (sym (not_too_much venue few)) c.unlocked.ensures
