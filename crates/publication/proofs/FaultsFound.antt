-- What reading a whole text meets is its first fault.
use Rattle.std.proofs.Common.{◌≡◌, ℕ, List, [], ◌++◌, Option, Ok, ap, subst}
use Rattle.edge_io.specs.Told.{told}
use Rattle.match_rules.specs.declared.answer.Answer.{Answer}
use Rattle.match_rules.specs.declared.sizes.Sizes.{Sizes}
use Rattle.match_rules.specs.Sound.{sizes_of}
use Rattle.text_lines.specs.declared.fault.TextFault.{TextFault}
use Rattle.text_lines.specs.FirstFault.{Due, HasFault, no_line}
use Rattle.text_lines.specs.Reading.{◌>>=◌, Cursor, LinesValue, cursor, end_at}
use Rattle.text_lines.proofs.FaultLaws.{FaultFrom, end_found, fault_in, fault_of, found_behind}
use Rattle.publication.specs.AnswerReading.{answer_at, certificate_at}
use Rattle.publication.specs.DueLines.{answer_due, answer_then, certificate_due, rules_due, rules_then}
use Rattle.publication.specs.RulesReading.{rules_at}
use Rattle.publication.specs.WholeTexts.{answer_whole_at, rules_whole_at}
use Rattle.publication.proofs.AnswerDue.{answer_follows}
use Rattle.publication.proofs.RulesDue.{rules_track}

answer_found : {A : Type 0} (sizes : Sizes) (made : Answer → A) (at : Cursor) → FaultFrom (answer_then sizes no_line) at (fault_in (answer_at sizes at >>= λ answer. end_at answer.1 >>= λ end. Ok (made answer.0)))
answer_found sizes made at =
    found_behind (λ answer. no_line) (answer_then sizes no_line) at (λ answer next. end_at next >>= λ end. Ok (made answer)) (answer_at sizes at) (answer_follows sizes no_line at) (λ answer next. end_found (made answer) next)

pub certificate_fault : (at : Cursor) → FaultFrom certificate_due at (fault_in (certificate_at at))
unfolding certificate_at certificate_due
certificate_fault at =
    found_behind (λ rules. answer_then (sizes_of rules) no_line) (rules_then (λ rules. answer_then (sizes_of rules) no_line)) at (λ rules next. answer_at (sizes_of rules) next >>= λ answer. end_at answer.1 >>= λ end. Ok (rules, answer.0)) (rules_at at)
    (rules_track (λ rules. answer_then (sizes_of rules) no_line) at) (λ rules next. answer_found (sizes_of rules) (λ answer. (rules, answer)) next)

pub rules_fault : (at : Cursor) → FaultFrom rules_due at (fault_in (rules_whole_at at))
unfolding rules_due rules_whole_at
rules_fault at =
    found_behind (λ rules. no_line) (rules_then (λ rules. no_line)) at (λ rules next. end_at next >>= λ end. Ok rules) (rules_at at) (rules_track (λ rules. no_line) at) (λ rules next. end_found rules next)

pub answer_fault : (sizes : Sizes) (at : Cursor) → FaultFrom (answer_due sizes) at (fault_in (answer_whole_at sizes at))
unfolding answer_due answer_whole_at
answer_fault sizes at = answer_found sizes (λ answer. answer) at

-- ---- from the first byte of a source on

first_found : (due : Due) (lines : LinesValue) (left : Option (List ℕ)) (fault : Option TextFault) → lines.unread ≡ [] → lines.number ≡ 1 → FaultFrom due (cursor lines left) fault → HasFault due (told left) fault
first_found due lines left fault none first w =
    subst (λ (bytes : List ℕ). HasFault due bytes fault) (ap (λ (t : List ℕ). t ++ told left) none) (fault_of due (cursor lines left) fault first w)

pub certificate_found : (lines : LinesValue) (left : Option (List ℕ)) → lines.unread ≡ [] → lines.number ≡ 1 → HasFault certificate_due (told left) (fault_in (certificate_at (cursor lines left)))
certificate_found lines left none first = first_found certificate_due lines left (fault_in (certificate_at (cursor lines left))) none first (certificate_fault (cursor lines left))

pub rules_found : (lines : LinesValue) (left : Option (List ℕ)) → lines.unread ≡ [] → lines.number ≡ 1 → HasFault rules_due (told left) (fault_in (rules_whole_at (cursor lines left)))
rules_found lines left none first = first_found rules_due lines left (fault_in (rules_whole_at (cursor lines left))) none first (rules_fault (cursor lines left))

pub answer_is_found : (sizes : Sizes) (lines : LinesValue) (left : Option (List ℕ)) → lines.unread ≡ [] → lines.number ≡ 1 → HasFault (answer_due sizes) (told left) (fault_in (answer_whole_at sizes (cursor lines left)))
answer_is_found sizes lines left none first = first_found (answer_due sizes) lines left (fault_in (answer_whole_at sizes (cursor lines left))) none first (answer_fault sizes (cursor lines left))
