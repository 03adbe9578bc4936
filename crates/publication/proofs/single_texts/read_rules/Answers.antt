use Rattle.std.proofs.Common.{◌∙◌, sym}
use Rattle.edge_io.specs.Told.{told}
use Rattle.match_rules.specs.Rules.{RulesValue}
use Rattle.text_lines.specs.Reading.{cursor}
use Rattle.publication.specs.DueLines.{rules_due}
use Rattle.publication.specs.WholeTexts.{rules_whole_at}
use Rattle.publication.proofs.CertificateLaws.{first_bytes, rules_apart, rules_of_text, rules_whole_takes, same_read}
use Rattle.publication.proofs.FaultsFound.{rules_found}
use Rattle.publication.proofs.RefusalLaws.{ended_there, error_refused, error_for, read_whole, not_refused}
use Rattle.publication.proofs.single_texts.read_rules.Goals as goal

pub returns-in-Ok-rules_and_end-clause-found : goal.returns-in-Ok-rules_and_end-clause-found
returns-in-Ok-rules_and_end-clause-found g c = λ tells.
    let left = g.S.Source.left c.args.source.now in
    sym (first_bytes c.in-Ok.lines left c.in-Ok.ensures.0) ∙ rules_whole_takes (cursor c.in-Ok.lines left) c.in-Ok-rules_and_end.rules (c.in-Ok-rules_and_end.ensures.reads tells)

pub returns-in-Ok-rules_and_end-clause-only : goal.returns-in-Ok-rules_and_end-clause-only
returns-in-Ok-rules_and_end-clause-only g c = λ tells rules are text.
    let left = g.S.Source.left c.args.source.now in
    same_read (rules_whole_at (cursor c.in-Ok.lines left)) c.in-Ok-rules_and_end.rules rules (c.in-Ok-rules_and_end.ensures.reads tells) (rules_of_text c.in-Ok.lines left rules c.in-Ok.ensures.0 are text)

pub returns-in-Ok-rules_and_end-clause-exact : goal.returns-in-Ok-rules_and_end-clause-exact
returns-in-Ok-rules_and_end-clause-exact g c = λ tells fault has.
    let left = g.S.Source.left c.args.source.now in
    read_whole rules_due (told left) c.in-Ok-rules_and_end.rules (rules_whole_at (cursor c.in-Ok.lines left)) fault (c.in-Ok-rules_and_end.ensures.reads tells) (rules_found c.in-Ok.lines left c.in-Ok.ensures.0 c.in-Ok.ensures.1) has

pub returns-in-Ok-rules_and_end-clause-apart : goal.returns-in-Ok-rules_and_end-clause-apart
returns-in-Ok-rules_and_end-clause-apart g c = rules_apart

pub returns-in_default-clause-apart : goal.returns-in_default-clause-apart
returns-in_default-clause-apart g c = rules_apart

pub returns-in-Err-clause-only : goal.returns-in-Err-clause-only
returns-in-Err-clause-only g c = λ tells rules are text.
    let left = g.S.Source.left c.args.source.now in
    rw c.refusal_of.ensures (not_refused (λ (r : RulesValue). r) rules c.in-Err.error (rules_whole_at (cursor c.in-Ok.lines left)) (c.in-Err.ensures.reads tells) (rules_of_text c.in-Ok.lines left rules c.in-Ok.ensures.0 are text))

pub returns-in-Err-clause-refused : goal.returns-in-Err-clause-refused
returns-in-Err-clause-refused g c = λ tells.
    let left = g.S.Source.left c.args.source.now in
    rw c.refusal_of.ensures (error_refused rules_due (told left) c.in-Err.error (rules_whole_at (cursor c.in-Ok.lines left)) (c.in-Err.ensures.reads tells) (rules_found c.in-Ok.lines left c.in-Ok.ensures.0 c.in-Ok.ensures.1))

pub returns-in-Err-clause-exact : goal.returns-in-Err-clause-exact
returns-in-Err-clause-exact g c = λ tells fault has.
    let left = g.S.Source.left c.args.source.now in
    rw c.refusal_of.ensures (error_for RulesValue rules_due (told left) c.in-Err.error (rules_whole_at (cursor c.in-Ok.lines left)) fault (c.in-Err.ensures.reads tells) (rules_found c.in-Ok.lines left c.in-Ok.ensures.0 c.in-Ok.ensures.1) has)

pub returns-in-Err-clause-apart : goal.returns-in-Err-clause-apart
returns-in-Err-clause-apart g c = rules_apart

pub returns-in-Err-clause-truncated : goal.returns-in-Err-clause-truncated
returns-in-Err-clause-truncated g c = λ tells. rw c.refusal_of.ensures (ended_there _ _ _ c.in-Err.error c.in-Err.ensures.cause tells)
