use Rattle.std.proofs.Common.{◌≡◌, Ok}
use Rattle.std.proofs.lemmas.Result.{err_from_is_err_and}
use Rattle.text_lines.specs.Reading.{line_at, cursor}
use Rattle.text_lines.proofs.CauseLaws.{same_cause}
use Rattle.text_lines.proofs.DueLaws.{due_fails, due_ok, due_bad, due_no_text}
use Rattle.text_lines.proofs.form.read_line.Goals as goal

pub returns-in_err-next-clause-reads : goal.returns-in_err-next-clause-reads
returns-in_err-next-clause-reads g c =
    let p = err_from_is_err_and c.from_residual.result c.from_residual.ensures.1 in
    rw (p.1, p.2) (λ tells. due_fails (g.F.LineForm.reads c.args.form.now c.args.before.now) _ _ (c.in_err-next.ensures.reads tells))

pub returns-in_default-clause-reads : goal.returns-in_default-clause-reads
returns-in_default-clause-reads g c = λ tells.
    let at = cursor c.args.lines.now (g.S.Source.left c.args.source.now) in
    let rest = cursor c.next.new.self (g.S.Source.left c.next.new.source) in
    let there : line_at at ≡ Ok (c.line.result.now, rest) = rw c.line.ensures (c.in_ok-next.ensures.reads tells) in
    rw (c.bad_line.ensures, c.number-number.ensures) (due_no_text (g.F.LineForm.reads c.args.form.now c.args.before.now) at rest c.line.result.now there c.in_default.ensures.cases.0)

pub returns-in-Ok-read-clause-reads : goal.returns-in-Ok-read-clause-reads
returns-in-Ok-read-clause-reads g c = λ tells.
    let at = cursor c.args.lines.now (g.S.Source.left c.args.source.now) in
    let rest = cursor c.next.new.self (g.S.Source.left c.next.new.source) in
    let there : line_at at ≡ Ok (c.line.result.now, rest) = rw c.line.ensures (c.in_ok-next.ensures.reads tells) in
    due_ok (g.F.LineForm.reads c.args.form.now c.args.before.now) at rest c.line.result.now c.in-Ok-read.item there c.in-Ok.ensures.cases.1 (rw c.in-Ok.ensures.cases.0 at c.in-Ok-read.ensures.gives)

pub returns-in-Err-Code-clause-reads : goal.returns-in-Err-Code-clause-reads
returns-in-Err-Code-clause-reads g c = λ tells.
    let at = cursor c.args.lines.now (g.S.Source.left c.args.source.now) in
    let rest = cursor c.next.new.self (g.S.Source.left c.next.new.source) in
    let there : line_at at ≡ Ok (c.line.result.now, rest) = rw c.line.ensures (c.in_ok-next.ensures.reads tells) in
    let gives = rw (c.in-Err-Code.field-0-is, c.in-Ok.ensures.cases.0) at c.in-Err-Code.ensures.gives in
    rw (c.bad_line-in-Err-Code.ensures, c.number-number.ensures) (due_bad (g.F.LineForm.reads c.args.form.now c.args.before.now) at rest c.line.result.now c.in-Err-Code.code there c.in-Ok.ensures.cases.1 gives)

pub returns-in_err-next-clause-cause : goal.returns-in_err-next-clause-cause
returns-in_err-next-clause-cause g c =
    let p = err_from_is_err_and c.from_residual.result c.from_residual.ensures.1 in
    rw (p.1, p.2) (same_cause _ _ _ _ c.in_err-next.ensures.cause)

pub returns-in_err-next-clause-untold : goal.returns-in_err-next-clause-untold
returns-in_err-next-clause-untold g c = c.next.ensures.untold
