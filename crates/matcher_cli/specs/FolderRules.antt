-- The rules of a folder's files: what is answered, and what is written.
use Rattle.std.specs.Prelude.{◌≡◌, ℕ, List, Option, Result, Ok, Err}
use Rattle.edge_io.specs.FileValues.{FileValue}
use Rattle.match_rules.specs.Rules.{RulesValue}
use Rattle.venue_rules.specs.declared.fault.LimitFault.{LimitFault}
use Rattle.editions.specs.declared.fault.LoadFault.{LoadFault}
use Rattle.editions.specs.declared.fault.LoadFault.TheVariants as load
use Rattle.editions.specs.Loads.{Loaded, venue_in}
use Rattle.venue_rules.specs.VenueRules.{rules_of}
use Rattle.publication.specs.RulesText.{rules_text}
use Rattle.matcher_cli.specs.declared.status.Status.{Status}
use Rattle.matcher_cli.specs.declared.status.Status.TheVariants.{Done, Broken, Infeasible, Usage, KeeperFault, Damaged, ReadFault, WriteFault, Refused, Memory}
use Rattle.matcher_cli.specs.Refusals.{refusal_text}
use Rattle.matcher_cli.specs.Verdicts.{FrontWritten, IsButForFaults, Written}

-- rules, or what is refused of a folder
abbrev pub Answered : Type 0
Answered = Result RulesValue LoadFault

abbrev pub within_limits : Result RulesValue LimitFault → Answered
within_limits (Ok rules) = Ok rules
within_limits (Err fault) = Err (load.Limit fault)

abbrev pub rules_of_loaded : Loaded → Answered
rules_of_loaded (Ok venue) = within_limits (rules_of venue)
rules_of_loaded (Err fault) = Err (load.Bad fault.0 fault.1 fault.2)

-- the rules of the venue of these files, or the first that is wrong
unfoldable pub rules_in : List FileValue → Answered
rules_in files = rules_of_loaded (venue_in files)

-- the text that is due for rules, or for what is refused
abbrev pub text_due : Answered → List ℕ
text_due (Ok rules) = rules_text rules
text_due (Err fault) = refusal_text fault

-- what is answered and written for the files of a folder, by the status; old and new are what the sink has taken
abbrev pub RulesServed : Status → List FileValue → List ℕ → Option (List ℕ) → Type 0
RulesServed Done files old new = (rules : RulesValue) × (rules_in files ≡ Ok rules) × Written old new (rules_text rules)
RulesServed Broken files old new = ⊥
RulesServed Infeasible files old new = ⊥
RulesServed Usage files old new = ⊥
RulesServed KeeperFault files old new = ⊥
RulesServed Damaged files old new = ⊥
RulesServed ReadFault files old new = Unit {0}
RulesServed WriteFault files old new = FrontWritten old new (text_due (rules_in files))
RulesServed Refused files old new = (fault : LoadFault) × (rules_in files ≡ Err fault) × Written old new (refusal_text fault)
RulesServed Memory files old new = Unit {0}

-- which files have which status
abbrev pub IsServedExactly : Answered → Status → Type 0
IsServedExactly (Ok rules) result = IsButForFaults Done result
IsServedExactly (Err fault) result = IsButForFaults Refused result

-- a fault has a line where it lies in a file, or is a limit
abbrev pub HasLine : LoadFault → Type 0
HasLine load.Memory = ⊥
HasLine load.Folder = ⊥
HasLine (load.Bad file row fault) = Unit {0}
HasLine (load.Limit fault) = Unit {0}

-- what is answered and written for a fault, by the status
abbrev pub IsFaultTold : Status → LoadFault → List ℕ → Option (List ℕ) → Type 0
IsFaultTold Done fault old new = ⊥
IsFaultTold Broken fault old new = ⊥
IsFaultTold Infeasible fault old new = ⊥
IsFaultTold Usage fault old new = ⊥
IsFaultTold KeeperFault fault old new = ⊥
IsFaultTold Damaged fault old new = ⊥
IsFaultTold ReadFault fault old new = fault ≡ load.Folder
IsFaultTold WriteFault fault old new = HasLine fault × FrontWritten old new (refusal_text fault)
IsFaultTold Refused fault old new = HasLine fault × Written old new (refusal_text fault)
IsFaultTold Memory fault old new = fault ≡ load.Memory
