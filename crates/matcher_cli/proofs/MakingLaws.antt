-- What is written for a verdict is what is made of a seed and a size, and each of them has one answer.
use Rattle.std.proofs.Common.{◌≡◌, ℕ, List, Option, Result, Ok, Err, inr, refl, sym, subst, arith}
use Rattle.std.specs.Prelude.{◌≢◌}
use Rattle.edge_io.specs.FileValues.{FileValue}
use Rattle.made_conference.specs.Tables.{made_files}
use Rattle.match_rules.specs.declared.answer.Answer.{Answer}
use Rattle.match_rules.specs.declared.answer.Answer.TheVariants.{Lottery, Infeasible}
use Rattle.match_rules.specs.declared.answer.Mode.{Mode}
use Rattle.match_rules.specs.declared.answer.Mode.TheVariants.{Whole}
use Rattle.match_rules.specs.Answers.{Certified}
use Rattle.match_rules.specs.Rules.{RulesValue, AreRules}
use Rattle.editions.specs.declared.fault.LoadFault.{LoadFault}
use Rattle.editions.specs.declared.fault.LoadFault.TheVariants as load
use Rattle.editions.specs.declared.venue.Edited.{Edited}
use Rattle.editions.specs.Answers.{IsEdited}
use Rattle.editions.specs.Loads.{IsLoadAnswer, LoadFails, venue_in}
use Rattle.publication.specs.Certificates.{IsSpelled}
use Rattle.publication.specs.Checks.{Holds}
use Rattle.solve_line.specs.Verdicts.{IsVerdict}
use Rattle.matcher_cli.specs.declared.status.Status.{Status}
use Rattle.matcher_cli.specs.declared.status.Status.TheVariants as status
use Rattle.matcher_cli.specs.FolderRules.{Answered, IsFaultTold, rules_in}
use Rattle.matcher_cli.specs.Making.{Makes, MakesRules, line_due, made_rules}
use Rattle.matcher_cli.specs.Solving.{IsSolved, IsSolvedExactly, status_of}
use Rattle.matcher_cli.specs.Verdicts.{Written}
use Rattle.matcher_cli.proofs.ServingLaws.{loaded_rules, refused_rules}
use Rattle.matcher_cli.proofs.SolvingLaws.{fault_solved, told_exact, verdict_no_solution, verdict_solution}

-- a verdict breaks no clause of the check
pub verdict_holds : (rules : RulesValue) (mode : Mode) (answer : Answer) → IsVerdict rules mode answer → Holds rules answer
verdict_holds rules mode (Lottery winning) v = subst (λ (m : Mode). Certified rules m winning) (sym v.certified.of_mode) v.certified
verdict_holds rules mode (Infeasible blocked) v = v.shown

-- a verdict whose line was written
pub verdict_makes : (seed size : ℕ) (rules : RulesValue) (answer : Answer) (old : List ℕ) (new : Option (List ℕ)) → AreRules rules → IsVerdict rules Whole answer → IsSpelled answer
    → Written old new (line_due seed size rules answer) → MakesRules (status_of answer) seed size rules old new
verdict_makes seed size rules (Lottery winning) old new are v spelled written = (winning, verdict_solution rules Whole winning are v spelled, written)
verdict_makes seed size rules (Infeasible blocked) old new are v spelled written = (blocked, verdict_no_solution rules Whole blocked are v spelled, written)

pub memory_makes : (seed size : ℕ) (answered : Answered) (old : List ℕ) (new : Option (List ℕ)) → Makes status.Memory seed size answered old new
memory_makes seed size (Ok rules) old new = tt
memory_makes seed size (Err fault) old new = tt

-- a folder that counts no fault doesn't fail
pub never_failed : (fault : LoadFault) → (let answer : Result Edited LoadFault = Err fault in LoadFails 0 0 answer) → fault ≢ load.Folder
never_failed load.Memory fails = λ e. cc e
never_failed load.Folder fails = λ e. omega (arith, fails.failed refl)
never_failed (load.Bad file row code) fails = λ e. cc e
never_failed (load.Limit fault) fails = λ e. cc e

-- what is made for the rules of files is made for the files
pub loaded_makes : (result : Status) (seed size : ℕ) (files : List FileValue) (edited : Edited) (old : List ℕ) (new : Option (List ℕ))
    → files ≡ made_files seed size → IsEdited edited (venue_in files) → MakesRules result seed size edited.rules old new → Makes result seed size (made_rules seed size) old new
loaded_makes result seed size files edited old new is loaded made = rw (← is, loaded_rules files edited loaded) made

pub loaded_exact : (result : Status) (seed size : ℕ) (files : List FileValue) (edited : Edited)
    → files ≡ made_files seed size → IsEdited edited (venue_in files) → IsSolved edited.rules result → IsSolvedExactly (made_rules seed size) result
loaded_exact result seed size files edited is loaded made = rw (← is, loaded_rules files edited loaded) made

-- what is told of a fault that isn't the folder's is what is made
pub told_makes : (status : Status) (seed size : ℕ) (files : List FileValue) (fault : LoadFault) (old : List ℕ) (new : Option (List ℕ))
    → (let answer : Result Edited LoadFault = Err fault in IsLoadAnswer answer (venue_in files)) → fault ≢ load.Folder → IsFaultTold status fault old new → Makes status seed size (rules_in files) old new
told_makes status.Done seed size files fault old new answer sure told = absurd told
told_makes status.Broken seed size files fault old new answer sure told = absurd told
told_makes status.Infeasible seed size files fault old new answer sure told = absurd told
told_makes status.Usage seed size files fault old new answer sure told = absurd told
told_makes status.KeeperFault seed size files fault old new answer sure told = absurd told
told_makes status.Damaged seed size files fault old new answer sure told = absurd told
told_makes status.ReadFault seed size files fault old new answer sure told = absurd (sure told)
told_makes status.WriteFault seed size files fault old new answer sure told = rw (refused_rules files fault told.0 answer) told.1
told_makes status.Refused seed size files fault old new answer sure told = rw (refused_rules files fault told.0 answer) told.1
told_makes status.Memory seed size files fault old new answer sure told = memory_makes seed size (rules_in files) old new

-- the same for the files of a seed and a size
pub fault_makes : (status : Status) (seed size : ℕ) (files : List FileValue) (fault : LoadFault) (old : List ℕ) (new : Option (List ℕ))
    → files ≡ made_files seed size → (let answer : Result Edited LoadFault = Err fault in IsLoadAnswer answer (venue_in files)) → fault ≢ load.Folder → IsFaultTold status fault old new
    → Makes status seed size (made_rules seed size) old new
fault_makes status seed size files fault old new is answer sure told = rw (← is) (told_makes status seed size files fault old new answer sure told)

pub fault_made_exact : (status : Status) (seed size : ℕ) (files : List FileValue) (fault : LoadFault) (old : List ℕ) (new : Option (List ℕ))
    → files ≡ made_files seed size → (let answer : Result Edited LoadFault = Err fault in IsLoadAnswer answer (venue_in files)) → IsFaultTold status fault old new
    → IsSolvedExactly (made_rules seed size) status
fault_made_exact status seed size files fault old new is answer told = rw (← is) (told_exact status files fault old new answer told)

-- where memory was wanting
pub memory_exact : (answered : Answered) → IsSolvedExactly answered status.Memory
memory_exact (Ok rules) = fault_solved rules status.Memory tt
memory_exact (Err fault) = inr tt

-- nothing is read, and the words are taken
pub makes_unread : (result : Status) (seed size : ℕ) (answered : Answered) (old : List ℕ) (new : Option (List ℕ)) → Makes result seed size answered old new → result ≢ status.ReadFault
makes_unread result seed size (Ok rules) old new made = λ e. absurd (rw e at made)
makes_unread result seed size (Err fault) old new made = λ e. absurd (rw e at made)

pub makes_taken : (result : Status) (seed size : ℕ) (answered : Answered) (old : List ℕ) (new : Option (List ℕ)) → Makes result seed size answered old new → result ≢ status.Usage
makes_taken result seed size (Ok rules) old new made = λ e. absurd (rw e at made)
makes_taken result seed size (Err fault) old new made = λ e. absurd (rw e at made)
