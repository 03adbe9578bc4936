-- What is told of a folder's files is what is served for them, and each folder has one answer.
use Rattle.std.proofs.Common.{◌≡◌, ℕ, List, Option, Result, Ok, Err, inl, inr, refl, ap, ◌∙◌}
use Rattle.edge_io.specs.FileValues.{FileValue}
use Rattle.editions.specs.declared.fault.LoadFault.{LoadFault}
use Rattle.editions.specs.declared.fault.LoadFault.TheVariants as load
use Rattle.editions.specs.declared.venue.Edited.{Edited}
use Rattle.editions.specs.Answers.{IsEdited}
use Rattle.editions.specs.Loads.{IsLoadAnswer, venue_in}
use Rattle.matcher_cli.specs.declared.status.Status.{Status}
use Rattle.matcher_cli.specs.declared.status.Status.TheVariants.{Done, Broken, Infeasible, Usage, KeeperFault, Damaged, ReadFault, WriteFault, Refused, Memory}
use Rattle.matcher_cli.specs.FolderRules.{Answered, HasLine, IsFaultTold, IsServedExactly, RulesServed, rules_in, rules_of_loaded, within_limits}
use Rattle.matcher_cli.specs.Verdicts.{IsFault}

-- the rules of a venue that was loaded
pub loaded_rules : (files : List FileValue) (edited : Edited) → IsEdited edited (venue_in files) → rules_in files ≡ Ok edited.rules
unfolding rules_in
loaded_rules files edited loaded = ap rules_of_loaded loaded.venue ∙ ap within_limits loaded.rules

-- what is wrong with files that make no venue
pub refused_rules : (files : List FileValue) (fault : LoadFault) → HasLine fault → (let answer : Result Edited LoadFault = Err fault in IsLoadAnswer answer (venue_in files)) → rules_in files ≡ Err fault
unfolding rules_in
refused_rules files load.Memory line answer = absurd line
refused_rules files load.Folder line answer = absurd line
refused_rules files (load.Bad file row fault) line answer = ap rules_of_loaded answer
refused_rules files (load.Limit fault) line answer = ap rules_of_loaded answer.made_so ∙ ap within_limits answer.limited

-- what is told of a fault is what is served
pub told_served : (status : Status) (files : List FileValue) (fault : LoadFault) (old : List ℕ) (new : Option (List ℕ))
    → (let answer : Result Edited LoadFault = Err fault in IsLoadAnswer answer (venue_in files)) → IsFaultTold status fault old new → RulesServed status files old new
told_served Done files fault old new answer told = absurd told
told_served Broken files fault old new answer told = told
told_served Infeasible files fault old new answer told = told
told_served Usage files fault old new answer told = told
told_served KeeperFault files fault old new answer told = told
told_served Damaged files fault old new answer told = told
told_served ReadFault files fault old new answer told = tt
told_served WriteFault files fault old new answer told = rw (refused_rules files fault told.0 answer) told.1
told_served Refused files fault old new answer told = (fault, refused_rules files fault told.0 answer, told.1)
told_served Memory files fault old new answer told = tt

for_fault : (status : Status) (answered : Answered) → IsFault status → IsServedExactly answered status
for_fault status (Ok rules) fault = inr fault
for_fault status (Err refused) fault = inr fault

-- what is served is exact
pub served_exact : (status : Status) (files : List FileValue) (old : List ℕ) (new : Option (List ℕ)) → RulesServed status files old new → IsServedExactly (rules_in files) status
served_exact Done files old new (rules, is, written) = rw is (inl refl)
served_exact Broken files old new served = absurd served
served_exact Infeasible files old new served = absurd served
served_exact Usage files old new served = absurd served
served_exact KeeperFault files old new served = absurd served
served_exact Damaged files old new served = absurd served
served_exact ReadFault files old new served = for_fault ReadFault (rules_in files) tt
served_exact WriteFault files old new served = for_fault WriteFault (rules_in files) tt
served_exact Refused files old new (fault, is, written) = rw is (inl refl)
served_exact Memory files old new served = for_fault Memory (rules_in files) tt
