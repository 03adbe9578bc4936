-- The rules of the editions of a history.
use Rattle.std.specs.Prelude.{◌≡◌, ℕ, ◌≤◌, Ok}
use Rattle.match_rules.specs.Rules.{AreRules, RulesValue}
use Rattle.venue_rules.specs.VenueRules.{rules_of}
use Rattle.venue_rules.specs.Venues.{VenueValue}
use Rattle.desk_history.specs.Histories.{History, edition, edits}

-- these are the rules that a venue makes, and they keep all conditions of rules
pub record AreRulesOf (venue : VenueValue) (rules : RulesValue) : Type 0 where
  pub made : rules_of venue ≡ Ok rules
  pub are : AreRules rules

-- it passes no limit: it makes some rules
abbrev pub MakesRules : VenueValue → Type 0
MakesRules venue = (rules : RulesValue) × AreRulesOf venue rules

-- so does the venue of each edition of a history
abbrev pub EditionsMakeRules : History → Type 0
EditionsMakeRules H = (n : ℕ) → n ≤ edits H → MakesRules (edition H n)
