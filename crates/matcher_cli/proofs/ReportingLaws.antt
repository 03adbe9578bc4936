-- What is reported of a certificate, and that each text has one answer.
use Rattle.std.proofs.Common.{◌≡◌, ℕ, List, Option, inl, inr, refl, sym, ap, arith, ◌∙◌}
use Rattle.command_words.specs.Commands.{IsReportWithin}
use Rattle.match_rules.specs.declared.answer.Answer.{Answer}
use Rattle.match_rules.specs.declared.answer.Winning.{Winning}
use Rattle.match_rules.specs.Answers.{Certified}
use Rattle.match_rules.specs.Rules.{AreRules, RulesValue}
use Rattle.publication.specs.Checks.{Holds}
use Rattle.reports.specs.declared.kinds.Report.{Report}
use Rattle.reports.specs.declared.kinds.Report.TheVariants.{Shares, Loads, Papers, Institutions, Ticket}
use Rattle.reports.specs.Reports.{IsAskedOf}
use Rattle.text_lines.specs.declared.fault.TextFault.{TextFault}
use Rattle.matcher_cli.specs.declared.status.Status.{Status}
use Rattle.matcher_cli.specs.declared.status.Status.TheVariants.{Done, Broken, Infeasible, Usage, KeeperFault, Damaged, ReadFault, WriteFault, Refused, Memory}
use Rattle.matcher_cli.specs.Reporting.{IsReportedExactly, Reports, ReportsAnswer}
use Rattle.matcher_cli.specs.Solving.{status_of}
use Rattle.matcher_cli.specs.Verdicts.{IsButForFaults, IsFault, IsFaultOf, IsTextOf}
use Rattle.matcher_cli.proofs.VerdictLaws.{holds_too, same_holds}

-- a ticket that words may ask for is one of each certified lottery
pub ticket_held : (rules : RulesValue) (winning : Winning) (what : Report) → AreRules rules → Certified rules winning.mode winning → IsReportWithin what → IsAskedOf winning.lottery what
ticket_held rules winning Shares are certified within = tt
ticket_held rules winning Loads are certified within = tt
ticket_held rules winning Papers are certified within = tt
ticket_held rules winning Institutions are certified within = tt
ticket_held rules winning (Ticket ticket) are certified within =
    let all = certified.whole ∙ are.tickets in
    rw all (omega (arith, within))

-- what is reported of a certificate is reported of its text
pub answer_reports : (status : Status) (what : Report) (bytes : List ℕ) (rules : RulesValue) (answer : Answer) (old : List ℕ) (new : Option (List ℕ))
    → IsTextOf bytes rules answer → ReportsAnswer status what rules answer old new → Reports status what bytes old new
answer_reports Done what bytes rules answer old new text reported = (rules, answer, text, reported)
answer_reports Broken what bytes rules answer old new text reported = (rules, answer, text, reported)
answer_reports Infeasible what bytes rules answer old new text reported = (rules, answer, text, reported)
answer_reports Usage what bytes rules answer old new text reported = reported
answer_reports KeeperFault what bytes rules answer old new text reported = reported
answer_reports Damaged what bytes rules answer old new text reported = reported
answer_reports ReadFault what bytes rules answer old new text reported = tt
answer_reports WriteFault what bytes rules answer old new text reported = inl (rules, answer, text, reported)
answer_reports Refused what bytes rules answer old new text reported = absurd reported
answer_reports Memory what bytes rules answer old new text reported = tt

-- a status that says nothing of the bytes
pub fault_reported : (bytes : List ℕ) (status : Status) → IsFault status → IsReportedExactly bytes status
fault_reported bytes status fault = record {
  valid = λ r a text holds. inr fault;
  invalid = λ r a text broken. inr fault;
  no_text = λ none. inr fault;
  fault = λ wrong is. inr fault;
}

-- the status of an answer that is this one
status_is : (status : Status) (answer other : Answer) → answer ≡ other → status ≡ status_of answer → IsButForFaults (status_of other) status
status_is status answer other same is = inl (is ∙ ap status_of same)

-- a valid answer is the only one of its text
valid_exact : (status : Status) (bytes : List ℕ) (rules : RulesValue) (answer : Answer)
    → IsTextOf bytes rules answer → ((wrong : TextFault) → ¬ (IsFaultOf wrong bytes)) → ((others : RulesValue) (other : Answer) → IsTextOf bytes others other → (rules ≡ others) × (answer ≡ other))
    → Holds rules answer → status ≡ status_of answer → IsReportedExactly bytes status
valid_exact status bytes rules answer text right only holds is = record {
  valid = λ r a t other. status_is status answer a (only r a t).1 is;
  invalid = λ r a t broken. absurd (broken (holds_too rules r answer a (only r a t) holds));
  no_text = λ none. absurd (none rules answer text);
  fault = λ wrong fault. absurd (right wrong fault);
}

-- what is reported of the only certificate of this text is exact
pub answer_exact : (status : Status) (what : Report) (bytes : List ℕ) (rules : RulesValue) (answer : Answer) (old : List ℕ) (new : Option (List ℕ))
    → IsTextOf bytes rules answer → ((wrong : TextFault) → ¬ (IsFaultOf wrong bytes)) → ((others : RulesValue) (other : Answer) → IsTextOf bytes others other → (rules ≡ others) × (answer ≡ other))
    → ReportsAnswer status what rules answer old new → IsReportedExactly bytes status
answer_exact Done what bytes rules answer old new text right only (winning, is, holds, written) = valid_exact Done bytes rules answer text right only holds (sym (ap status_of is))
answer_exact Broken what bytes rules answer old new text right only reported = record {
  valid = λ r a t holds. absurd (reported.1.invalid (same_holds rules r answer a (only r a t) holds));
  invalid = λ r a t broken. inl refl;
  no_text = λ none. absurd (none rules answer text);
  fault = λ wrong is. absurd (right wrong is);
}
answer_exact Infeasible what bytes rules answer old new text right only (blocked, is, holds, written) = valid_exact Infeasible bytes rules answer text right only holds (sym (ap status_of is))
answer_exact Usage what bytes rules answer old new text right only reported = absurd reported
answer_exact KeeperFault what bytes rules answer old new text right only reported = absurd reported
answer_exact Damaged what bytes rules answer old new text right only reported = absurd reported
answer_exact ReadFault what bytes rules answer old new text right only reported = absurd reported
answer_exact WriteFault what bytes rules answer old new text right only reported = fault_reported bytes WriteFault tt
answer_exact Refused what bytes rules answer old new text right only reported = absurd reported
answer_exact Memory what bytes rules answer old new text right only reported = fault_reported bytes Memory tt
