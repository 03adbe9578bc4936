-- What the check answers, and what it writes.
use Rattle.std.specs.Prelude.{◌≡◌, ◌⊎◌, ℕ, List, ◌++◌, Option, None, Some, IsSome}
use Rattle.edge_io.specs.Told.{told, GrowsByFront}
use Rattle.match_rules.specs.declared.answer.Answer.{Answer}
use Rattle.match_rules.specs.declared.breaks.Break.{Break}
use Rattle.match_rules.specs.Rules.{RulesValue}
use Rattle.publication.specs.Certificates.{IsCertificate, certificate_text}
use Rattle.publication.specs.Checks.{check_break_of, Holds}
use Rattle.publication.specs.DueLines.{certificate_due}
use Rattle.publication.specs.Refusals.{refusal_of_fault}
use Rattle.publication.specs.declared.refusal.ReadRefusal.{ReadRefusal}
use Rattle.publication.specs.declared.refusal.ReadRefusal.TheVariants as refusals
use Rattle.text_lines.specs.declared.fault.TextFault.{TextFault}
use Rattle.text_lines.specs.FirstFault.{HasFault}
use Rattle.matcher_cli.specs.declared.status.Status.{Status}
use Rattle.matcher_cli.specs.declared.status.Status.TheVariants.{Done, Broken, Infeasible, Usage, KeeperFault, Damaged, ReadFault, WriteFault, Refused, Memory}
use Rattle.matcher_cli.specs.Lines.{valid_line, broken_line, fault_line}

-- bytes that are the text of rules and of an answer to them
pub record IsTextOf (bytes : List ℕ) (rules : RulesValue) (answer : Answer) : Type 0 where
  pub certificate : IsCertificate rules answer
  pub text : bytes ≡ certificate_text rules answer

-- an answer that breaks a clause, first this one
pub record IsBrokenBy (rules : RulesValue) (answer : Answer) (broken : Break) : Type 0 where
  pub first : check_break_of rules answer ≡ Some broken
  pub invalid : ¬ (Holds rules answer)

-- the line was written behind what the sink had taken, where it tells that
abbrev pub Written : List ℕ → Option (List ℕ) → List ℕ → Type 0
Written old new line = IsSome new → told new ≡ old ++ line

-- a front of the line was written behind what the sink had taken, where it tells that
abbrev pub FrontWritten : List ℕ → Option (List ℕ) → List ℕ → Type 0
FrontWritten old new line = IsSome new → GrowsByFront old (told new) line

-- the line that is due for an answer, by its first broken clause
abbrev pub line_of : Answer → Option Break → List ℕ
line_of answer None = valid_line answer
line_of answer (Some broken) = broken_line broken

-- the line that is due for rules and an answer
abbrev pub judged_line : RulesValue → Answer → List ℕ
judged_line rules answer = line_of answer (check_break_of rules answer)

-- what is answered and written for rules and an answer, by the status; old and new are what the sink has taken
abbrev pub Judges : Status → RulesValue → Answer → List ℕ → Option (List ℕ) → Type 0
Judges Done rules answer old new = Holds rules answer × Written old new (valid_line answer)
Judges Broken rules answer old new = (broken : Break) × IsBrokenBy rules answer broken × Written old new (broken_line broken)
Judges Infeasible rules answer old new = ⊥
Judges Usage rules answer old new = ⊥
Judges KeeperFault rules answer old new = ⊥
Judges Damaged rules answer old new = ⊥
Judges ReadFault rules answer old new = ⊥
Judges WriteFault rules answer old new = FrontWritten old new (judged_line rules answer)
Judges Refused rules answer old new = ⊥
Judges Memory rules answer old new = Unit {0}

-- bytes that are no such text
abbrev pub IsNoText : List ℕ → Type 0
IsNoText bytes = (rules : RulesValue) (answer : Answer) → ¬ (IsTextOf bytes rules answer)

-- the first fault of bytes that are no such text; a text has one first fault
abbrev pub IsFaultOf : TextFault → List ℕ → Type 0
IsFaultOf fault bytes = HasFault certificate_due bytes (Some fault)

-- a front of the line that is due for the bytes was written
abbrev pub FrontDue : List ℕ → List ℕ → Option (List ℕ) → Type 0
FrontDue bytes old new =
    ((rules : RulesValue) × (answer : Answer) × IsTextOf bytes rules answer × FrontWritten old new (judged_line rules answer))
    ⊎ ((fault : TextFault) × IsNoText bytes × IsFaultOf fault bytes × FrontWritten old new (fault_line fault))

-- what is answered and written for the bytes of a source, by the status
abbrev pub Checks : Status → List ℕ → List ℕ → Option (List ℕ) → Type 0
Checks Done bytes old new = (rules : RulesValue) × (answer : Answer) × IsTextOf bytes rules answer × Judges Done rules answer old new
Checks Broken bytes old new = (rules : RulesValue) × (answer : Answer) × IsTextOf bytes rules answer × Judges Broken rules answer old new
Checks Infeasible bytes old new = ⊥
Checks Usage bytes old new = ⊥
Checks KeeperFault bytes old new = ⊥
Checks Damaged bytes old new = ⊥
Checks ReadFault bytes old new = Unit {0}
Checks WriteFault bytes old new = FrontDue bytes old new
Checks Refused bytes old new = (fault : TextFault) × IsNoText bytes × IsFaultOf fault bytes × Written old new (fault_line fault)
Checks Memory bytes old new = Unit {0}

-- what is answered and written for a text that was not read, by the status
abbrev pub IsRefusalTold : Status → ReadRefusal → List ℕ → Option (List ℕ) → Type 0
IsRefusalTold Done refusal old new = ⊥
IsRefusalTold Broken refusal old new = ⊥
IsRefusalTold Infeasible refusal old new = ⊥
IsRefusalTold Usage refusal old new = ⊥
IsRefusalTold KeeperFault refusal old new = ⊥
IsRefusalTold Damaged refusal old new = ⊥
IsRefusalTold ReadFault refusal old new = refusal ≡ refusals.ReadFault
IsRefusalTold WriteFault refusal old new = (fault : TextFault) × (refusal ≡ refusal_of_fault fault) × FrontWritten old new (fault_line fault)
IsRefusalTold Refused refusal old new = (fault : TextFault) × (refusal ≡ refusal_of_fault fault) × Written old new (fault_line fault)
IsRefusalTold Memory refusal old new = refusal ≡ refusals.Memory

-- a status that says nothing of the bytes: a fault of the source or the sink, or want of memory
abbrev pub IsFault : Status → Type 0
IsFault Done = ⊥
IsFault Broken = ⊥
IsFault Infeasible = ⊥
IsFault Usage = ⊥
IsFault KeeperFault = ⊥
IsFault Damaged = ⊥
IsFault ReadFault = Unit {0}
IsFault WriteFault = Unit {0}
IsFault Refused = ⊥
IsFault Memory = Unit {0}

-- the status is this one, but for a fault
abbrev pub IsButForFaults : Status → Status → Type 0
IsButForFaults status result = (result ≡ status) ⊎ IsFault result

-- which bytes have which status
pub record IsExact (bytes : List ℕ) (result : Status) : Type 0 where
  pub valid : (rules : RulesValue) (answer : Answer) → IsTextOf bytes rules answer → Holds rules answer → IsButForFaults Done result
  pub invalid : (rules : RulesValue) (answer : Answer) → IsTextOf bytes rules answer → ¬ (Holds rules answer) → IsButForFaults Broken result
  pub no_text : IsNoText bytes → IsButForFaults Refused result
  pub fault : (fault : TextFault) → IsFaultOf fault bytes → IsButForFaults Refused result
