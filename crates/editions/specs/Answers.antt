-- What an edit and a folder are answered by.
use Rattle.std.specs.Prelude.{◌≡◌, Result, Ok, Err, ⊤}
use Rattle.match_rules.specs.Rules.{RulesValue}
use Rattle.editions.specs.declared.fault.EditFault.{EditFault}
use Rattle.editions.specs.declared.fault.EditFault.TheVariants.{Memory, Import, Limit}
use Rattle.venue_rules.specs.declared.fault.LimitFault.{LimitFault}
use Rattle.editions.specs.declared.venue.Edited.{Edited}
use Rattle.table_edits.specs.Bodies.{Made}
use Rattle.venue_rules.specs.VenueRules.{rules_of}
use Rattle.venue_rules.specs.Venues.{VenueValue}

-- the rules of a venue, or the limit that it passes; or memory was wanting
abbrev pub IsRulesAnswer : Result RulesValue EditFault → VenueValue → Type 0
IsRulesAnswer (Ok rules) venue = rules_of venue ≡ Ok rules
IsRulesAnswer (Err Memory) venue = ⊤
IsRulesAnswer (Err (Import row code)) venue = ⊥
IsRulesAnswer (Err (Limit fault)) venue = rules_of venue ≡ Err fault

-- the venue that was made or loaded, with its rules
pub record IsEdited {F : Type 0} (edited : Edited) (made : Result VenueValue F) : Type 0 where
  pub venue : made ≡ Ok edited.venue
  pub rules : rules_of edited.venue ≡ Ok edited.rules

-- a venue was made or loaded, whose rules pass a limit
pub record IsLimited {F : Type 0} (fault : LimitFault) (made : Result VenueValue F) : Type 0 where
  pub venue : VenueValue
  pub made_so : made ≡ Ok venue
  pub limited : rules_of venue ≡ Err fault

-- the venue with its rules, the row at fault, or the limit; or memory was wanting
abbrev pub IsEditAnswer : Result Edited EditFault → Made VenueValue → Type 0
IsEditAnswer (Ok edited) made = IsEdited edited made
IsEditAnswer (Err Memory) made = ⊤
IsEditAnswer (Err (Import row code)) made = made ≡ Err (row, code)
IsEditAnswer (Err (Limit fault)) made = IsLimited fault made
