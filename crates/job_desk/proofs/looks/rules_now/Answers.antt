use Rattle.std.proofs.Common.{◌≡◌, ◌∙◌, IfOk, ap, subst, sym}
use Rattle.match_rules.specs.Rules.{RulesValue}
use Rattle.venue_rules.specs.Venues.{VenueValue}
use Rattle.venue_rules.specs.VenueRules.{rules_of}
use Rattle.desk_history.specs.Looks.{rules_or_none}
use Rattle.job_desk.proofs.looks.rules_now.Goals as goal

pub returns : goal.returns
returns c H are =
    subst (λ (r : RulesValue). IfOk c.copy.result (λ rules. rules ≡ r))
    (sym (ap (λ (v : VenueValue). rules_or_none (rules_of v)) (c.history_laws.ensures.present H) ∙ ap rules_or_none are.rules)) c.copy.ensures
