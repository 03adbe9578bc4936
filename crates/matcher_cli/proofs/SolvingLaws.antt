-- What is written for a verdict is what is served for its rules, and each folder has one answer.
use Rattle.std.proofs.Common.{◌≡◌, ℕ, List, Option, Result, Ok, Err, inl, inr, refl, subst}
use Rattle.edge_io.specs.FileValues.{FileValue}
use Rattle.match_rules.specs.declared.answer.Answer.{Answer}
use Rattle.match_rules.specs.declared.answer.Answer.TheVariants.{Lottery, Infeasible}
use Rattle.match_rules.specs.declared.answer.Blocked.{Blocked}
use Rattle.match_rules.specs.declared.answer.Mode.{Mode}
use Rattle.match_rules.specs.declared.answer.Mode.TheVariants.{Whole}
use Rattle.match_rules.specs.declared.answer.Winning.{Winning}
use Rattle.match_rules.specs.declared.answer.Sieve.TheVariants.{All as EveryPair}
use Rattle.match_rules.specs.Assignments.{Best}
use Rattle.match_rules.specs.Rules.{RulesValue, AreRules}
use Rattle.editions.specs.declared.fault.LoadFault.{LoadFault}
use Rattle.editions.specs.declared.venue.Edited.{Edited}
use Rattle.editions.specs.Loads.{IsLoadAnswer, venue_in}
use Rattle.publication.specs.Certificates.{IsCertificate, IsSpelled, certificate_text}
use Rattle.solve_line.specs.Verdicts.{IsVerdict}
use Rattle.solve_line.proofs.VerdictLaws.{verdict-best, verdict-infeasible, verdict-whole-best}
use Rattle.matcher_cli.specs.declared.status.Status.{Status}
use Rattle.matcher_cli.specs.declared.status.Status.TheVariants as status
use Rattle.matcher_cli.specs.FolderRules.{Answered, IsFaultTold, rules_in}
use Rattle.matcher_cli.specs.Solving.{IsNoSolution, IsSolution, IsSolved, IsSolvedExactly, Solves, SolvesRules, status_of}
use Rattle.matcher_cli.specs.Verdicts.{IsFault, Written}
use Rattle.matcher_cli.proofs.ServingLaws.{refused_rules}

-- a verdict is an answer whose text is read back
pub verdict_certificate : (rules : RulesValue) (mode : Mode) (answer : Answer) → AreRules rules → IsVerdict rules mode answer → IsSpelled answer → IsCertificate rules answer
verdict_certificate rules mode (Lottery winning) are v spelled = record {
  rules_kept = are;
  suits = rw v.certified.of_mode v.certified.suits;
  matching = v.certified.fitting;
  spelled = spelled;
}
verdict_certificate rules mode (Infeasible blocked) are v spelled = record {
  rules_kept = are;
  suits = tt;
  matching = v.shown.fitting;
  spelled = spelled;
}

-- in the mode whole no lottery at all is better
whole_best : (rules : RulesValue) (mode : Mode) (winning : Winning) → AreRules rules → IsVerdict rules mode (Lottery winning) → mode ≡ Whole → Best rules EveryPair winning.lottery
whole_best rules mode winning are v whole = verdict-whole-best rules (Lottery winning) are (subst (λ (m : Mode). IsVerdict rules m (Lottery winning)) whole v)

-- a lottery of a verdict, and a cut of one
pub verdict_solution : (rules : RulesValue) (mode : Mode) (winning : Winning) → AreRules rules → IsVerdict rules mode (Lottery winning) → IsSpelled (Lottery winning) → IsSolution rules mode winning
verdict_solution rules mode winning are v spelled = record {
  won = v;
  best = verdict-best rules mode (Lottery winning) are v;
  best_of_all = whole_best rules mode winning are v;
  readable = verdict_certificate rules mode (Lottery winning) are v spelled;
}

pub verdict_no_solution : (rules : RulesValue) (mode : Mode) (blocked : Blocked) → AreRules rules → IsVerdict rules mode (Infeasible blocked) → IsSpelled (Infeasible blocked) → IsNoSolution rules mode blocked
verdict_no_solution rules mode blocked are v spelled = record { forbidden = v; readable = verdict_certificate rules mode (Infeasible blocked) are v spelled }

-- a verdict whose text was written
pub verdict_solves : (rules : RulesValue) (mode : Mode) (answer : Answer) (old : List ℕ) (new : Option (List ℕ)) → AreRules rules → IsVerdict rules mode answer → IsSpelled answer
    → Written old new (certificate_text rules answer) → SolvesRules (status_of answer) rules mode old new
verdict_solves rules mode (Lottery winning) old new are v spelled written = (winning, verdict_solution rules mode winning are v spelled, written)
verdict_solves rules mode (Infeasible blocked) old new are v spelled written = (blocked, verdict_no_solution rules mode blocked are v spelled, written)

-- a lottery comes exactly where some lottery fits
pub verdict_exact : (rules : RulesValue) (mode : Mode) (answer : Answer) → AreRules rules → IsVerdict rules mode answer → IsSolved rules (status_of answer)
verdict_exact rules mode (Lottery winning) are v = record {
  feasible = λ can. inl refl;
  infeasible = λ none. absurd ((verdict-infeasible rules mode (Lottery winning) v).1 none);
}
verdict_exact rules mode (Infeasible blocked) are v = record { feasible = λ can. absurd (v.none can.0 can.1); infeasible = λ none. inl refl }

pub fault_solved : (rules : RulesValue) (status : Status) → IsFault status → IsSolved rules status
fault_solved rules status fault = record { feasible = λ can. inr fault; infeasible = λ none. inr fault }

fault_exact : (answered : Answered) (status : Status) → IsFault status → IsSolvedExactly answered status
fault_exact (Ok rules) status fault = fault_solved rules status fault
fault_exact (Err refused) status fault = inr fault

-- what is served for the rules of files is served for the files
pub rules_solve : (status : Status) (files : List FileValue) (mode : Mode) (rules : RulesValue) (old : List ℕ) (new : Option (List ℕ))
    → rules_in files ≡ Ok rules → SolvesRules status rules mode old new → Solves status files mode old new
rules_solve status.Done files mode rules old new is solved = (rules, is, solved)
rules_solve status.Broken files mode rules old new is solved = solved
rules_solve status.Infeasible files mode rules old new is solved = (rules, is, solved)
rules_solve status.Usage files mode rules old new is solved = solved
rules_solve status.KeeperFault files mode rules old new is solved = solved
rules_solve status.Damaged files mode rules old new is solved = solved
rules_solve status.ReadFault files mode rules old new is solved = tt
rules_solve status.WriteFault files mode rules old new is solved = rw is solved
rules_solve status.Refused files mode rules old new is solved = absurd solved
rules_solve status.Memory files mode rules old new is solved = tt

-- what is told of a fault is what is served
pub told_solves : (status : Status) (files : List FileValue) (mode : Mode) (fault : LoadFault) (old : List ℕ) (new : Option (List ℕ))
    → (let answer : Result Edited LoadFault = Err fault in IsLoadAnswer answer (venue_in files)) → IsFaultTold status fault old new → Solves status files mode old new
told_solves status.Done files mode fault old new answer told = absurd told
told_solves status.Broken files mode fault old new answer told = told
told_solves status.Infeasible files mode fault old new answer told = absurd told
told_solves status.Usage files mode fault old new answer told = told
told_solves status.KeeperFault files mode fault old new answer told = told
told_solves status.Damaged files mode fault old new answer told = told
told_solves status.ReadFault files mode fault old new answer told = tt
told_solves status.WriteFault files mode fault old new answer told = rw (refused_rules files fault told.0 answer) told.1
told_solves status.Refused files mode fault old new answer told = (fault, refused_rules files fault told.0 answer, told.1)
told_solves status.Memory files mode fault old new answer told = tt

pub told_exact : (status : Status) (files : List FileValue) (fault : LoadFault) (old : List ℕ) (new : Option (List ℕ))
    → (let answer : Result Edited LoadFault = Err fault in IsLoadAnswer answer (venue_in files)) → IsFaultTold status fault old new → IsSolvedExactly (rules_in files) status
told_exact status.Done files fault old new answer told = absurd told
told_exact status.Broken files fault old new answer told = absurd told
told_exact status.Infeasible files fault old new answer told = absurd told
told_exact status.Usage files fault old new answer told = absurd told
told_exact status.KeeperFault files fault old new answer told = absurd told
told_exact status.Damaged files fault old new answer told = absurd told
told_exact status.ReadFault files fault old new answer told = fault_exact (rules_in files) status.ReadFault tt
told_exact status.WriteFault files fault old new answer told = fault_exact (rules_in files) status.WriteFault tt
told_exact status.Refused files fault old new answer told = rw (refused_rules files fault told.0 answer) (inl refl)
told_exact status.Memory files fault old new answer told = fault_exact (rules_in files) status.Memory tt
