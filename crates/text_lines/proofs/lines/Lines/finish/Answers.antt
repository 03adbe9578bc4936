use Rattle.std.proofs.Common.{length, sym, ap, ◌∙◌, arith}
use Rattle.std.proofs.lemmas.Bool.{ltb-true}
use Rattle.std.proofs.lemmas.List.{length-append}
use Rattle.std.proofs.lemmas.Result.{err_from_is_err_and}
use Rattle.edge_io.specs.Told.{told}
use Rattle.text_lines.specs.Reading.{cursor}
use Rattle.text_lines.proofs.CauseLaws.{same_cause}
use Rattle.text_lines.proofs.ItemsLaws.{end_ok, end_bad}
use Rattle.text_lines.proofs.lines.Lines.finish.Goals as goal

pub returns-then-branch-clause-reads : goal.returns-then-branch-clause-reads
returns-then-branch-clause-reads g c = λ tells.
    let some = ltb-true 0 (length c.more.new.self.unread) (sym c.in_ok-more.ensures.some ∙ c.if-branch.true) in
    end_bad (cursor c.args.self (g.S.Source.left c.args.source.now)) (omega (arith, some, ap length (c.more.ensures.all tells), length-append c.more.new.self.unread (told (g.S.Source.left c.more.new.source))))

pub returns-clause-reads : goal.returns-clause-reads
returns-clause-reads g c = λ tells. end_ok (cursor c.args.self (g.S.Source.left c.args.source.now)) (c.in_ok-more.ensures.end tells c.if-branch.false)

pub returns-in_err-more-clause-cause : goal.returns-in_err-more-clause-cause
returns-in_err-more-clause-cause g c =
    let p = err_from_is_err_and c.from_residual.result c.from_residual.ensures.1 in
    rw (p.1, p.2) (same_cause _ _ _ _ c.in_err-more.ensures.cause)

pub returns-in_err-more-clause-untold : goal.returns-in_err-more-clause-untold
returns-in_err-more-clause-untold g c = c.more.ensures.untold
