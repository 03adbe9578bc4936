use Rattle.std.proofs.Common.{◌≡◌, Some, Ok, ap, sym, ◌∙◌}
use Rattle.edge_io.specs.Memory.{SureBytes}
use Rattle.match_rules.specs.declared.answer.Answer.{Answer}
use Rattle.match_rules.specs.Sound.{sizes_of}
use Rattle.text_lines.specs.Reading.{Fails, cursor}
use Rattle.publication.specs.DueLines.{answer_due}
use Rattle.publication.specs.WholeTexts.{answer_whole_at}
use Rattle.publication.proofs.CertificateLaws.{first_bytes, answers_apart, answer_of_text, answer_whole_takes, same_read}
use Rattle.publication.proofs.FaultsFound.{answer_is_found}
use Rattle.publication.proofs.RefusalLaws.{error_refused, error_for, read_whole, not_refused}
use Rattle.publication.proofs.single_texts.read_answer.Goals as goal

pub returns-in_default-clause-apart : goal.returns-in_default-clause-apart
returns-in_default-clause-apart c = answers_apart c.args.rules.now

pub returns-in_default-from_slice-clause-apart : goal.returns-in_default-from_slice-clause-apart
returns-in_default-from_slice-clause-apart c = answers_apart c.args.rules.now

pub returns-in-Ok-answer_and_end-clause-apart : goal.returns-in-Ok-answer_and_end-clause-apart
returns-in-Ok-answer_and_end-clause-apart c = answers_apart c.args.rules.now

pub returns-clause-apart : goal.returns-clause-apart
returns-clause-apart c = answers_apart c.args.rules.now

pub returns-in-Ok-answer_and_end-clause-found : goal.returns-in-Ok-answer_and_end-clause-found
returns-in-Ok-answer_and_end-clause-found c =
    let lines = c.in-Ok.lines in
    let rules = c.args.rules.now in
    let bytes = c.args.bytes.now in
    let left : c.new-2.result.left ≡ bytes = ap (λ (s : SureBytes). s.left) c.new-2.ensures ∙ c.in-Ok-from_slice.ensures.items in
    let read : answer_whole_at (sizes_of rules) (cursor lines (Some bytes)) ≡ Ok c.in-Ok-answer_and_end.answer = rw left at c.in-Ok-answer_and_end.ensures.reads in
    sym (first_bytes lines (Some bytes) c.in-Ok.ensures.0) ∙ answer_whole_takes rules (cursor lines (Some bytes)) c.in-Ok-answer_and_end.answer c.in-Ok-answer_and_end.ensures.matching.rules_kept read

pub returns-in-Ok-answer_and_end-clause-only : goal.returns-in-Ok-answer_and_end-clause-only
returns-in-Ok-answer_and_end-clause-only c = λ answer is text.
    let lines = c.in-Ok.lines in
    let rules = c.args.rules.now in
    let bytes = c.args.bytes.now in
    let left : c.new-2.result.left ≡ bytes = ap (λ (s : SureBytes). s.left) c.new-2.ensures ∙ c.in-Ok-from_slice.ensures.items in
    let read : answer_whole_at (sizes_of rules) (cursor lines (Some bytes)) ≡ Ok c.in-Ok-answer_and_end.answer = rw left at c.in-Ok-answer_and_end.ensures.reads in
    same_read (answer_whole_at (sizes_of rules) (cursor lines (Some bytes))) c.in-Ok-answer_and_end.answer answer read (answer_of_text rules lines (Some bytes) answer c.in-Ok.ensures.0 is text)

pub returns-in-Ok-answer_and_end-clause-exact : goal.returns-in-Ok-answer_and_end-clause-exact
returns-in-Ok-answer_and_end-clause-exact c = λ fault has.
    let lines = c.in-Ok.lines in
    let rules = c.args.rules.now in
    let bytes = c.args.bytes.now in
    let left : c.new-2.result.left ≡ bytes = ap (λ (s : SureBytes). s.left) c.new-2.ensures ∙ c.in-Ok-from_slice.ensures.items in
    let read : answer_whole_at (sizes_of rules) (cursor lines (Some bytes)) ≡ Ok c.in-Ok-answer_and_end.answer = rw left at c.in-Ok-answer_and_end.ensures.reads in
    read_whole (answer_due (sizes_of rules)) bytes c.in-Ok-answer_and_end.answer (answer_whole_at (sizes_of rules) (cursor lines (Some bytes))) fault read (answer_is_found (sizes_of rules) lines (Some bytes) c.in-Ok.ensures.0 c.in-Ok.ensures.1) has

pub returns-clause-only : goal.returns-clause-only
returns-clause-only c = λ answer is text.
    let lines = c.in-Ok.lines in
    let rules = c.args.rules.now in
    let bytes = c.args.bytes.now in
    let left : c.new-2.result.left ≡ bytes = ap (λ (s : SureBytes). s.left) c.new-2.ensures ∙ c.in-Ok-from_slice.ensures.items in
    let fails : Fails c.in-Err.error (answer_whole_at (sizes_of rules) (cursor lines (Some bytes))) = rw left at c.in-Err.ensures.reads in
    rw c.refusal_of.ensures (not_refused (λ (a : Answer). a) answer c.in-Err.error (answer_whole_at (sizes_of rules) (cursor lines (Some bytes))) fails (answer_of_text rules lines (Some bytes) answer c.in-Ok.ensures.0 is text))

pub returns-clause-refused : goal.returns-clause-refused
returns-clause-refused c =
    let lines = c.in-Ok.lines in
    let rules = c.args.rules.now in
    let bytes = c.args.bytes.now in
    let left : c.new-2.result.left ≡ bytes = ap (λ (s : SureBytes). s.left) c.new-2.ensures ∙ c.in-Ok-from_slice.ensures.items in
    let fails : Fails c.in-Err.error (answer_whole_at (sizes_of rules) (cursor lines (Some bytes))) = rw left at c.in-Err.ensures.reads in
    rw c.refusal_of.ensures (error_refused (answer_due (sizes_of rules)) bytes c.in-Err.error (answer_whole_at (sizes_of rules) (cursor lines (Some bytes))) fails (answer_is_found (sizes_of rules) lines (Some bytes) c.in-Ok.ensures.0 c.in-Ok.ensures.1))

pub returns-clause-exact : goal.returns-clause-exact
returns-clause-exact c = λ fault has.
    let lines = c.in-Ok.lines in
    let rules = c.args.rules.now in
    let bytes = c.args.bytes.now in
    let left : c.new-2.result.left ≡ bytes = ap (λ (s : SureBytes). s.left) c.new-2.ensures ∙ c.in-Ok-from_slice.ensures.items in
    let fails : Fails c.in-Err.error (answer_whole_at (sizes_of rules) (cursor lines (Some bytes))) = rw left at c.in-Err.ensures.reads in
    rw c.refusal_of.ensures (error_for Answer (answer_due (sizes_of rules)) bytes c.in-Err.error (answer_whole_at (sizes_of rules) (cursor lines (Some bytes))) fault fails (answer_is_found (sizes_of rules) lines (Some bytes) c.in-Ok.ensures.0 c.in-Ok.ensures.1) has)
