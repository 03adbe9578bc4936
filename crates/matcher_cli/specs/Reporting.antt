-- The report of a certificate: what is answered, and what is written.
use Rattle.std.specs.Prelude.{◌≡◌, ◌⊎◌, ℕ, List, Option, None, Some}
use Rattle.match_rules.specs.declared.answer.Answer.{Answer}
use Rattle.match_rules.specs.declared.answer.Answer.TheVariants.{Lottery, Infeasible}
use Rattle.match_rules.specs.declared.answer.Blocked.{Blocked}
use Rattle.match_rules.specs.declared.answer.Winning.{Winning}
use Rattle.match_rules.specs.declared.breaks.Break.{Break}
use Rattle.match_rules.specs.Rules.{RulesValue}
use Rattle.publication.specs.Checks.{check_break_of, Holds}
use Rattle.reports.specs.declared.kinds.Report.{Report}
use Rattle.reports.specs.Reports.{report_text}
use Rattle.text_lines.specs.declared.fault.TextFault.{TextFault}
use Rattle.matcher_cli.specs.declared.status.Status.{Status}
use Rattle.matcher_cli.specs.declared.status.Status.TheVariants as status
use Rattle.matcher_cli.specs.Lines.{broken_line, fault_line, valid_line}
use Rattle.matcher_cli.specs.Solving.{status_of}
use Rattle.matcher_cli.specs.Verdicts.{FrontWritten, IsBrokenBy, IsButForFaults, IsFaultOf, IsNoText, IsTextOf, Written}

-- the text that is due for an answer that breaks no clause: the report of a lottery, or the line of a cut
abbrev pub valid_text : RulesValue → Report → Answer → List ℕ
valid_text rules what (Lottery winning) = report_text rules winning what
valid_text rules what (Infeasible blocked) = valid_line (Infeasible blocked)

-- the text that is due for an answer, by its first broken clause
abbrev pub text_of : RulesValue → Report → Answer → Option Break → List ℕ
text_of rules what answer None = valid_text rules what answer
text_of rules what answer (Some broken) = broken_line broken

-- the text that is due for rules and an answer
abbrev pub reported_text : RulesValue → Report → Answer → List ℕ
reported_text rules what answer = text_of rules what answer (check_break_of rules answer)

-- what is answered and written for rules and an answer, by the status; old and new are what the sink has taken
abbrev pub ReportsAnswer : Status → Report → RulesValue → Answer → List ℕ → Option (List ℕ) → Type 0
ReportsAnswer status.Done what rules answer old new = (winning : Winning) × (answer ≡ Lottery winning) × Holds rules answer × Written old new (report_text rules winning what)
ReportsAnswer status.Broken what rules answer old new = (broken : Break) × IsBrokenBy rules answer broken × Written old new (broken_line broken)
ReportsAnswer status.Infeasible what rules answer old new = (blocked : Blocked) × (answer ≡ Infeasible blocked) × Holds rules answer × Written old new (valid_line (Infeasible blocked))
ReportsAnswer status.Usage what rules answer old new = ⊥
ReportsAnswer status.KeeperFault what rules answer old new = ⊥
ReportsAnswer status.Damaged what rules answer old new = ⊥
ReportsAnswer status.ReadFault what rules answer old new = ⊥
ReportsAnswer status.WriteFault what rules answer old new = FrontWritten old new (reported_text rules what answer)
ReportsAnswer status.Refused what rules answer old new = ⊥
ReportsAnswer status.Memory what rules answer old new = Unit {0}

-- a front of the text that is due for the bytes was written
abbrev pub FrontReported : Report → List ℕ → List ℕ → Option (List ℕ) → Type 0
FrontReported what bytes old new =
    ((rules : RulesValue) × (answer : Answer) × IsTextOf bytes rules answer × FrontWritten old new (reported_text rules what answer))
    ⊎ ((fault : TextFault) × IsNoText bytes × IsFaultOf fault bytes × FrontWritten old new (fault_line fault))

-- what is answered and written for the bytes of a source, by the status
abbrev pub Reports : Status → Report → List ℕ → List ℕ → Option (List ℕ) → Type 0
Reports status.Done what bytes old new = (rules : RulesValue) × (answer : Answer) × IsTextOf bytes rules answer × ReportsAnswer status.Done what rules answer old new
Reports status.Broken what bytes old new = (rules : RulesValue) × (answer : Answer) × IsTextOf bytes rules answer × ReportsAnswer status.Broken what rules answer old new
Reports status.Infeasible what bytes old new = (rules : RulesValue) × (answer : Answer) × IsTextOf bytes rules answer × ReportsAnswer status.Infeasible what rules answer old new
Reports status.Usage what bytes old new = ⊥
Reports status.KeeperFault what bytes old new = ⊥
Reports status.Damaged what bytes old new = ⊥
Reports status.ReadFault what bytes old new = Unit {0}
Reports status.WriteFault what bytes old new = FrontReported what bytes old new
Reports status.Refused what bytes old new = (fault : TextFault) × IsNoText bytes × IsFaultOf fault bytes × Written old new (fault_line fault)
Reports status.Memory what bytes old new = Unit {0}

-- which bytes have which status
pub record IsReportedExactly (bytes : List ℕ) (result : Status) : Type 0 where
  pub valid : (rules : RulesValue) (answer : Answer) → IsTextOf bytes rules answer → Holds rules answer → IsButForFaults (status_of answer) result
  pub invalid : (rules : RulesValue) (answer : Answer) → IsTextOf bytes rules answer → ¬ (Holds rules answer) → IsButForFaults status.Broken result
  pub no_text : IsNoText bytes → IsButForFaults status.Refused result
  pub fault : (fault : TextFault) → IsFaultOf fault bytes → IsButForFaults status.Refused result
