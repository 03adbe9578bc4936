use Rattle.std.proofs.Common.{◌≡◌, ◌∙◌, ◌≤◌, List, All, length, map, sym, ap, subst}
use Rattle.match_rules.specs.declared.rules.RulePair.{RulePair}
use Rattle.match_rules.specs.declared.rules.TheConstants.{RULES_TICKETS}
use Rattle.match_rules.specs.Rules.{AreRules, IsLimit, rules_value}
use Rattle.venue_rules.specs.Candidates.{candidates}
use Rattle.venue_rules.specs.Found.{IsPair}
use Rattle.venue_rules.specs.Venues.{VenueValue}
use Rattle.venue_rules.specs.VenueRules.{made_rules, rule_paper, rule_reviewer}
use Rattle.venue_rules.proofs.RuleLaws.{AreGoodRows, are-rules}
use Rattle.venue_rules.proofs.rules.made_rules.Goals as goal

pub of_tested-requires : goal.of_tested-requires
of_tested-requires c =
    let venue = c.args.tables.now in
    let limit : c.limit-limit.result ≡ venue.settings.limit = c.limit-limit.ensures.same ∙ ap (λ (v : VenueValue). v.settings.limit) c.tables.view_is in
    let made_papers = c.in_ok-papers.ensures in
    let made_reviewers = c.in_ok-reviewers.ensures in
    let papers = map (rule_paper venue) venue.papers in
    let reviewers = map (rule_reviewer venue) venue.reviewers in
    let rows : AreGoodRows venue = record {
      limit = subst IsLimit limit (c.limit-limit.ensures.low, c.limit-limit.ensures.high);
      few_papers = made_papers.few;
      papers_ascend = made_papers.order;
      papers = made_papers.good;
      in_all = c.requires.demand;
      few_reviewers = made_reviewers.few;
      reviewers_ascend = made_reviewers.order;
      reviewers = made_reviewers.good;
    } in
    let few : length (candidates venue) ≤ 250000 = subst (λ (pairs : List RulePair). length pairs ≤ 250000) c.requires.pairs c.requires.few in
    let within : All IsPair (candidates venue) = subst (λ (pairs : List RulePair). All IsPair pairs) c.requires.pairs c.requires.within in
    let same : rules_value RULES_TICKETS c.limit-limit.result c.in_ok-papers.papers.items c.in_ok-reviewers.reviewers.items c.args.pairs.items ≡ made_rules venue =
    ap (λ l. rules_value RULES_TICKETS l c.in_ok-papers.papers.items c.in_ok-reviewers.reviewers.items c.args.pairs.items) limit
    ∙ ap (λ ps. rules_value RULES_TICKETS venue.settings.limit ps c.in_ok-reviewers.reviewers.items c.args.pairs.items) made_papers.same
    ∙ ap (λ rs. rules_value RULES_TICKETS venue.settings.limit papers rs c.args.pairs.items) made_reviewers.same
    ∙ ap (λ es. rules_value RULES_TICKETS venue.settings.limit papers reviewers es) c.requires.pairs
    in
    subst AreRules (sym same) (are-rules venue rows few within)
