use Rattle.edge_io.specs.Told.{told}
use Rattle.text_lines.specs.Reading.{cursor}
use Rattle.publication.specs.declared.certificate.Certificate.{Certificate}
use Rattle.publication.specs.AnswerReading.{certificate_at}
use Rattle.publication.specs.Certificates.{parts_of}
use Rattle.publication.specs.DueLines.{certificate_due}
use Rattle.publication.proofs.CertificateLaws.{text_of_read, read_of_text, same_read, certificates_apart}
use Rattle.publication.proofs.FaultsFound.{certificate_found}
use Rattle.publication.proofs.RefusalLaws.{ended_there, error_refused, error_for, read_whole, not_refused}
use Rattle.publication.proofs.certificate.read_certificate.Goals as goal

pub returns-in-Ok-read_parts-clause-found : goal.returns-in-Ok-read_parts-clause-found
returns-in-Ok-read_parts-clause-found g c = λ tells.
    let read = c.in-Ok-read_parts.certificate in
    text_of_read c.in-Ok.lines (g.S.Source.left c.args.source.now) read.rules read.answer c.in-Ok.ensures.0 (c.in-Ok-read_parts.ensures.reads tells)

pub returns-in-Ok-read_parts-clause-only : goal.returns-in-Ok-read_parts-clause-only
returns-in-Ok-read_parts-clause-only g c = λ tells rules answer is text.
    let read = c.in-Ok-read_parts.certificate in
    same_read _ (read.rules, read.answer) (rules, answer) (c.in-Ok-read_parts.ensures.reads tells) (read_of_text c.in-Ok.lines (g.S.Source.left c.args.source.now) rules answer c.in-Ok.ensures.0 is text)

pub returns-in-Ok-read_parts-clause-exact : goal.returns-in-Ok-read_parts-clause-exact
returns-in-Ok-read_parts-clause-exact g c = λ tells fault has.
    let left = g.S.Source.left c.args.source.now in
    let read = c.in-Ok-read_parts.certificate in
    read_whole certificate_due (told left) (read.rules, read.answer) (certificate_at (cursor c.in-Ok.lines left)) fault (c.in-Ok-read_parts.ensures.reads tells) (certificate_found c.in-Ok.lines left c.in-Ok.ensures.0 c.in-Ok.ensures.1) has

pub returns-in-Ok-read_parts-clause-apart : goal.returns-in-Ok-read_parts-clause-apart
returns-in-Ok-read_parts-clause-apart g c = certificates_apart

pub returns-in_default-clause-apart : goal.returns-in_default-clause-apart
returns-in_default-clause-apart g c = certificates_apart

pub returns-in-Err-clause-only : goal.returns-in-Err-clause-only
returns-in-Err-clause-only g c = λ tells rules answer is text.
    let left = g.S.Source.left c.args.source.now in
    rw c.refusal_of.ensures (not_refused parts_of (rules, answer) c.in-Err.error (certificate_at (cursor c.in-Ok.lines left)) (c.in-Err.ensures.reads tells) (read_of_text c.in-Ok.lines left rules answer c.in-Ok.ensures.0 is text))

pub returns-in-Err-clause-refused : goal.returns-in-Err-clause-refused
returns-in-Err-clause-refused g c = λ tells.
    let left = g.S.Source.left c.args.source.now in
    rw c.refusal_of.ensures (error_refused certificate_due (told left) c.in-Err.error (certificate_at (cursor c.in-Ok.lines left)) (c.in-Err.ensures.reads tells) (certificate_found c.in-Ok.lines left c.in-Ok.ensures.0 c.in-Ok.ensures.1))

pub returns-in-Err-clause-exact : goal.returns-in-Err-clause-exact
returns-in-Err-clause-exact g c = λ tells fault has.
    let left = g.S.Source.left c.args.source.now in
    rw c.refusal_of.ensures (error_for Certificate certificate_due (told left) c.in-Err.error (certificate_at (cursor c.in-Ok.lines left)) fault (c.in-Err.ensures.reads tells) (certificate_found c.in-Ok.lines left c.in-Ok.ensures.0 c.in-Ok.ensures.1) has)

pub returns-in-Err-clause-apart : goal.returns-in-Err-clause-apart
returns-in-Err-clause-apart g c = certificates_apart

pub returns-in-Err-clause-truncated : goal.returns-in-Err-clause-truncated
returns-in-Err-clause-truncated g c = λ tells. rw c.refusal_of.ensures (ended_there _ _ _ c.in-Err.error c.in-Err.ensures.cause tells)
