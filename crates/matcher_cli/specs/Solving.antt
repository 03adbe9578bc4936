-- The solution of the rules of a folder's files: what is answered, and what is written.
use Rattle.std.specs.Prelude.{◌≡◌, ℕ, List, Option, Ok, Err}
use Rattle.edge_io.specs.FileValues.{FileValue}
use Rattle.match_rules.specs.declared.answer.Answer.{Answer}
use Rattle.match_rules.specs.declared.answer.Answer.TheVariants.{Lottery, Infeasible}
use Rattle.match_rules.specs.declared.answer.Blocked.{Blocked}
use Rattle.match_rules.specs.declared.answer.Mode.{Mode}
use Rattle.match_rules.specs.declared.answer.Mode.TheVariants.{Whole}
use Rattle.match_rules.specs.declared.answer.Sieve.TheVariants.{All as EveryPair}
use Rattle.match_rules.specs.declared.answer.Winning.{Winning}
use Rattle.match_rules.specs.Assignments.{Best}
use Rattle.match_rules.specs.Rules.{RulesValue}
use Rattle.match_rules.specs.Thresholds.{CanFit, sieve_of}
use Rattle.editions.specs.declared.fault.LoadFault.{LoadFault}
use Rattle.publication.specs.Certificates.{IsCertificate, certificate_text}
use Rattle.solve_line.specs.Verdicts.{IsForbidden, IsVerdict, IsWon, NoneFits}
use Rattle.matcher_cli.specs.declared.status.Status.{Status}
use Rattle.matcher_cli.specs.declared.status.Status.TheVariants as status
use Rattle.matcher_cli.specs.FolderRules.{Answered, rules_in}
use Rattle.matcher_cli.specs.Refusals.{refusal_text}
use Rattle.matcher_cli.specs.Verdicts.{FrontWritten, IsButForFaults, Written}

-- a certified lottery of few rounded pieces; no lottery of any size under the sieve of its level has more for each ticket, and in
-- the mode whole none under these rules at all; and the text of both is read back as them
pub record IsSolution (rules : RulesValue) (mode : Mode) (winning : Winning) : Type 0 where
  pub won : IsWon rules mode winning
  pub best : Best rules (sieve_of winning.level) winning.lottery
  pub best_of_all : mode ≡ Whole → Best rules EveryPair winning.lottery
  pub readable : IsCertificate rules (Lottery winning)

-- a cut that shows that no lottery fits, and whose text is read back
pub record IsNoSolution (rules : RulesValue) (mode : Mode) (blocked : Blocked) : Type 0 where
  pub forbidden : IsForbidden rules mode blocked
  pub readable : IsCertificate rules (Infeasible blocked)

-- what is answered and written for rules in a mode, by the status; old and new are what the sink has taken
abbrev pub SolvesRules : Status → RulesValue → Mode → List ℕ → Option (List ℕ) → Type 0
SolvesRules status.Done rules mode old new = (winning : Winning) × IsSolution rules mode winning × Written old new (certificate_text rules (Lottery winning))
SolvesRules status.Broken rules mode old new = ⊥
SolvesRules status.Infeasible rules mode old new = (blocked : Blocked) × IsNoSolution rules mode blocked × Written old new (certificate_text rules (Infeasible blocked))
SolvesRules status.Usage rules mode old new = ⊥
SolvesRules status.KeeperFault rules mode old new = ⊥
SolvesRules status.Damaged rules mode old new = ⊥
SolvesRules status.ReadFault rules mode old new = ⊥
SolvesRules status.WriteFault rules mode old new = (answer : Answer) × IsVerdict rules mode answer × FrontWritten old new (certificate_text rules answer)
SolvesRules status.Refused rules mode old new = ⊥
SolvesRules status.Memory rules mode old new = Unit {0}

-- a front was written of the text of the rules and what they came to, or of the line of what is refused
abbrev pub FrontSolved : Answered → Mode → List ℕ → Option (List ℕ) → Type 0
FrontSolved (Ok rules) mode old new = SolvesRules status.WriteFault rules mode old new
FrontSolved (Err fault) mode old new = FrontWritten old new (refusal_text fault)

-- what is answered and written for the files of a folder in a mode, by the status
abbrev pub Solves : Status → List FileValue → Mode → List ℕ → Option (List ℕ) → Type 0
Solves status.Done files mode old new = (rules : RulesValue) × (rules_in files ≡ Ok rules) × SolvesRules status.Done rules mode old new
Solves status.Broken files mode old new = ⊥
Solves status.Infeasible files mode old new = (rules : RulesValue) × (rules_in files ≡ Ok rules) × SolvesRules status.Infeasible rules mode old new
Solves status.Usage files mode old new = ⊥
Solves status.KeeperFault files mode old new = ⊥
Solves status.Damaged files mode old new = ⊥
Solves status.ReadFault files mode old new = Unit {0}
Solves status.WriteFault files mode old new = FrontSolved (rules_in files) mode old new
Solves status.Refused files mode old new = (fault : LoadFault) × (rules_in files ≡ Err fault) × Written old new (refusal_text fault)
Solves status.Memory files mode old new = Unit {0}

-- which rules have which status
pub record IsSolved (rules : RulesValue) (result : Status) : Type 0 where
  pub feasible : CanFit rules EveryPair → IsButForFaults status.Done result
  pub infeasible : NoneFits rules → IsButForFaults status.Infeasible result

-- which files have which status
abbrev pub IsSolvedExactly : Answered → Status → Type 0
IsSolvedExactly (Ok rules) result = IsSolved rules result
IsSolvedExactly (Err fault) result = IsButForFaults status.Refused result

-- the status of an answer that was written
abbrev pub status_of : Answer → Status
status_of (Lottery winning) = status.Done
status_of (Infeasible blocked) = status.Infeasible
