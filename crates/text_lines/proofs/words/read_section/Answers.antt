use Rattle.std.proofs.Common.{[]}
use Rattle.std.proofs.lemmas.Result.{err_from_is_err_and}
use Rattle.text_lines.specs.Forms.{number_after, section_at}
use Rattle.text_lines.specs.Reading.{cursor, due, items_at}
use Rattle.text_lines.proofs.DueLaws.{bind_fails}
use Rattle.text_lines.proofs.FormLaws.{gives_after}
use Rattle.text_lines.proofs.CauseLaws.{same_cause, cause_since}
use Rattle.text_lines.proofs.words.read_section.Goals as goal

pub returns-in_err-count-clause-reads : goal.returns-in_err-count-clause-reads
unfolding section_at
returns-in_err-count-clause-reads g c =
    let p = err_from_is_err_and c.from_residual.result c.from_residual.ensures.1 in
    rw (p.1, p.2) (λ tells. bind_fails c.in_err-count.field-0.0 (due (number_after c.args.word.now c.args.least c.args.most) (cursor c.args.lines.now (g.S.Source.left c.args.source.now))) (λ count. items_at (g.F.LineForm.reads c.args.form.now) count.0 [] count.1) (c.in_err-count.ensures.reads tells))

pub returns-clause-reads : goal.returns-clause-reads
unfolding section_at
returns-clause-reads g c = λ tells.
    gives_after (λ items. items.items) c.read_items.result _ (due (number_after c.args.word.now c.args.least c.args.most) (cursor c.args.lines.now (g.S.Source.left c.args.source.now))) (λ count. items_at (g.F.LineForm.reads c.args.form.now) count.0 [] count.1) _ (c.in_ok-count.ensures.reads (c.read_items.ensures.untold tells)) (c.read_items.ensures.reads tells)

pub returns-in_err-count-clause-cause : goal.returns-in_err-count-clause-cause
returns-in_err-count-clause-cause g c =
    let p = err_from_is_err_and c.from_residual.result c.from_residual.ensures.1 in
    rw (p.1, p.2) (same_cause _ _ _ _ c.in_err-count.ensures.cause)

pub returns-clause-cause : goal.returns-clause-cause
returns-clause-cause g c = cause_since _ _ _ _ _ c.in_ok-count.ensures.cause.later c.read_items.ensures.cause
