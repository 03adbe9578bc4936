-- What is told of a text that was read as no certificate, and that its bytes have no other answer.
use Rattle.std.proofs.Common.{◌≡◌, ◌⊎◌, ℕ, List, Option, Result, Err, inl, inr, refl, subst}
use Rattle.match_rules.specs.declared.answer.Answer.{Answer}
use Rattle.match_rules.specs.Rules.{RulesValue}
use Rattle.publication.specs.Certificates.{IsCertificate, certificate_text, parts_of}
use Rattle.publication.specs.declared.certificate.Certificate.{Certificate}
use Rattle.publication.specs.declared.refusal.ReadRefusal.{ReadRefusal}
use Rattle.publication.specs.DueLines.{certificate_due}
use Rattle.publication.specs.Refusals.{IsRefused, ReadAs, refusal_of_fault}
use Rattle.reports.specs.declared.kinds.Report.{Report}
use Rattle.text_lines.specs.declared.fault.TextFault.{TextFault}
use Rattle.text_lines.specs.declared.fault.TextFault.TheVariants as faults
use Rattle.matcher_cli.specs.declared.status.Status.{Status}
use Rattle.matcher_cli.specs.declared.status.Status.TheVariants.{Done, Broken, Infeasible, Usage, KeeperFault, Damaged, ReadFault, WriteFault, Refused, Memory}
use Rattle.matcher_cli.specs.Lines.{fault_line}
use Rattle.matcher_cli.specs.Reporting.{IsReportedExactly, Reports}
use Rattle.matcher_cli.specs.Verdicts.{Checks, FrontWritten, IsExact, IsFaultOf, IsNoText, IsRefusalTold, Written}
use Rattle.matcher_cli.proofs.ReportingLaws.{fault_reported}
use Rattle.matcher_cli.proofs.VerdictLaws.{fault_exact}

-- bytes are read so, where they are a certificate's
abbrev pub IsOnly : List ℕ → ReadRefusal → Type 0
IsOnly bytes refusal =
    (rules : RulesValue) (answer : Answer) → IsCertificate rules answer → bytes ≡ certificate_text rules answer → (let read : Result Certificate ReadRefusal = Err refusal in ReadAs parts_of (rules, answer) read)

no_text_of : (bytes : List ℕ) (fault : TextFault) → IsOnly bytes (refusal_of_fault fault) → IsNoText bytes
no_text_of bytes faults.Truncated only rules answer text = only rules answer text.certificate text.text
no_text_of bytes faults.Trailing only rules answer text = only rules answer text.certificate text.text
no_text_of bytes (faults.BadLine number code) only rules answer text = only rules answer text.certificate text.text

fault_of : (bytes : List ℕ) (fault : TextFault) → IsRefused certificate_due bytes (refusal_of_fault fault) → IsFaultOf fault bytes
fault_of bytes faults.Truncated refused = refused
fault_of bytes faults.Trailing refused = refused
fault_of bytes (faults.BadLine number code) refused = refused

-- the fault that is told is that of the bytes
named : (bytes : List ℕ) (refusal : ReadRefusal) (fault : TextFault) → refusal ≡ refusal_of_fault fault → IsOnly bytes refusal → IsRefused certificate_due bytes refusal → IsNoText bytes × IsFaultOf fault bytes
named bytes refusal fault is only refused =
    (no_text_of bytes fault (subst (IsOnly bytes) is only), fault_of bytes fault (subst (IsRefused certificate_due bytes) is refused))

-- the line of a fault that was written is the line of its refusal
pub fault_told : (status : Status) (refusal : ReadRefusal) (fault : TextFault) (old : List ℕ) (new : Option (List ℕ))
    → refusal ≡ refusal_of_fault fault → (status ≡ Refused) ⊎ (status ≡ WriteFault) → (status ≡ Refused → Written old new (fault_line fault)) → (status ≡ WriteFault → FrontWritten old new (fault_line fault)) → IsRefusalTold status refusal old new
fault_told Done refusal fault old new is (inl e) written front = absurd cc
fault_told Done refusal fault old new is (inr e) written front = absurd cc
fault_told Broken refusal fault old new is (inl e) written front = absurd cc
fault_told Broken refusal fault old new is (inr e) written front = absurd cc
fault_told Infeasible refusal fault old new is (inl e) written front = absurd cc
fault_told Infeasible refusal fault old new is (inr e) written front = absurd cc
fault_told Usage refusal fault old new is (inl e) written front = absurd cc
fault_told KeeperFault refusal fault old new is (inl e) written front = absurd cc
fault_told Damaged refusal fault old new is (inl e) written front = absurd cc
fault_told Usage refusal fault old new is (inr e) written front = absurd cc
fault_told KeeperFault refusal fault old new is (inr e) written front = absurd cc
fault_told Damaged refusal fault old new is (inr e) written front = absurd cc
fault_told ReadFault refusal fault old new is (inl e) written front = absurd cc
fault_told ReadFault refusal fault old new is (inr e) written front = absurd cc
fault_told WriteFault refusal fault old new is either written front = (fault, is, front refl)
fault_told Refused refusal fault old new is either written front = (fault, is, written refl)
fault_told Memory refusal fault old new is (inl e) written front = absurd cc
fault_told Memory refusal fault old new is (inr e) written front = absurd cc

pub told_checks : (status : Status) (bytes : List ℕ) (refusal : ReadRefusal) (old : List ℕ) (new : Option (List ℕ))
    → IsOnly bytes refusal → IsRefused certificate_due bytes refusal → IsRefusalTold status refusal old new → Checks status bytes old new
told_checks Done bytes refusal old new only refused told = absurd told
told_checks Broken bytes refusal old new only refused told = absurd told
told_checks Infeasible bytes refusal old new only refused told = told
told_checks Usage bytes refusal old new only refused told = told
told_checks KeeperFault bytes refusal old new only refused told = told
told_checks Damaged bytes refusal old new only refused told = told
told_checks ReadFault bytes refusal old new only refused told = tt
told_checks WriteFault bytes refusal old new only refused (fault, is, written) = let parts = named bytes refusal fault is only refused in inr (fault, parts.0, parts.1, written)
told_checks Refused bytes refusal old new only refused (fault, is, written) = let parts = named bytes refusal fault is only refused in (fault, parts.0, parts.1, written)
told_checks Memory bytes refusal old new only refused told = tt

pub told_exact : (status : Status) (bytes : List ℕ) (refusal : ReadRefusal) (old : List ℕ) (new : Option (List ℕ))
    → IsOnly bytes refusal → IsRefused certificate_due bytes refusal → IsRefusalTold status refusal old new → IsExact bytes status
told_exact Done bytes refusal old new only refused told = absurd told
told_exact Broken bytes refusal old new only refused told = absurd told
told_exact Infeasible bytes refusal old new only refused told = absurd told
told_exact Usage bytes refusal old new only refused told = absurd told
told_exact KeeperFault bytes refusal old new only refused told = absurd told
told_exact Damaged bytes refusal old new only refused told = absurd told
told_exact ReadFault bytes refusal old new only refused told = fault_exact bytes ReadFault tt
told_exact WriteFault bytes refusal old new only refused told = fault_exact bytes WriteFault tt
told_exact Refused bytes refusal old new only refused (fault, is, written) =
    let parts = named bytes refusal fault is only refused in
    record {
      valid = λ r a text holds. absurd (parts.0 r a text);
      invalid = λ r a text broken. absurd (parts.0 r a text);
      no_text = λ none. inl refl;
      fault = λ wrong is_wrong. inl refl;
    }
told_exact Memory bytes refusal old new only refused told = fault_exact bytes Memory tt

pub told_reports : (status : Status) (what : Report) (bytes : List ℕ) (refusal : ReadRefusal) (old : List ℕ) (new : Option (List ℕ))
    → IsOnly bytes refusal → IsRefused certificate_due bytes refusal → IsRefusalTold status refusal old new → Reports status what bytes old new
told_reports Done what bytes refusal old new only refused told = absurd told
told_reports Broken what bytes refusal old new only refused told = absurd told
told_reports Infeasible what bytes refusal old new only refused told = absurd told
told_reports Usage what bytes refusal old new only refused told = told
told_reports KeeperFault what bytes refusal old new only refused told = told
told_reports Damaged what bytes refusal old new only refused told = told
told_reports ReadFault what bytes refusal old new only refused told = tt
told_reports WriteFault what bytes refusal old new only refused (fault, is, written) = let parts = named bytes refusal fault is only refused in inr (fault, parts.0, parts.1, written)
told_reports Refused what bytes refusal old new only refused (fault, is, written) = let parts = named bytes refusal fault is only refused in (fault, parts.0, parts.1, written)
told_reports Memory what bytes refusal old new only refused told = tt

pub told_reported : (status : Status) (bytes : List ℕ) (refusal : ReadRefusal) (old : List ℕ) (new : Option (List ℕ))
    → IsOnly bytes refusal → IsRefused certificate_due bytes refusal → IsRefusalTold status refusal old new → IsReportedExactly bytes status
told_reported Done bytes refusal old new only refused told = absurd told
told_reported Broken bytes refusal old new only refused told = absurd told
told_reported Infeasible bytes refusal old new only refused told = absurd told
told_reported Usage bytes refusal old new only refused told = absurd told
told_reported KeeperFault bytes refusal old new only refused told = absurd told
told_reported Damaged bytes refusal old new only refused told = absurd told
told_reported ReadFault bytes refusal old new only refused told = fault_reported bytes ReadFault tt
told_reported WriteFault bytes refusal old new only refused told = fault_reported bytes WriteFault tt
told_reported Refused bytes refusal old new only refused (fault, is, written) =
    let parts = named bytes refusal fault is only refused in
    record {
      valid = λ r a text holds. absurd (parts.0 r a text);
      invalid = λ r a text broken. absurd (parts.0 r a text);
      no_text = λ none. inl refl;
      fault = λ wrong is_wrong. inl refl;
    }
told_reported Memory bytes refusal old new only refused told = fault_reported bytes Memory tt
