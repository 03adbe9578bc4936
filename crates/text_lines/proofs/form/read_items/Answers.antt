use Rattle.std.proofs.Common.{◌≡◌, ℕ, ◌+◌, [], ◌∷◌, ◌++◌, Ok, ap, ◌∙◌, arith}
use Rattle.std.proofs.lemmas.Result.{err_from_is_err_and}
use Rattle.std.proofs.lemmas.List.{length_push}
use Rattle.text_lines.specs.Reading.{Fails, cursor, due}
use Rattle.text_lines.proofs.CauseLaws.{cause_goes_on}
use Rattle.text_lines.proofs.ItemsLaws.{items_go_on, items_fail, items_done, AllFrom-push}
use Rattle.text_lines.proofs.form.read_items.Goals as goal

pub returns-in_err-item-clause-reads : goal.returns-in_err-item-clause-reads
returns-in_err-item-clause-reads g c =
    let p = err_from_is_err_and c.from_residual.result c.from_residual.ensures.1 in
    let read = g.F.LineForm.reads c.args.form.now in
    rw (p.1, p.2) (λ tells.
    let bad : Fails c.in_err-item.field-0.0 (due (read c.loop.items.items) (cursor c.loop.lines (g.S.Source.left c.loop.source))) = rw (← c.loop.invariant.same, ← c.deref.ensures.value) (c.in_err-item.ensures.reads tells) in
    rw (c.loop.invariant.goes_on (c.in_err-item.ensures.untold tells)) (items_fail read c.args.count c.loop.counter c.loop.items.items _ c.in_err-item.field-0.0 c.loop-test.true bad))

pub loop-preserved : goal.loop-preserved
loop-preserved g c =
    let read = g.F.LineForm.reads c.args.form.now in
    let item = c.in_ok-item.item in
    let pushed : c.push.new.self.items ≡ c.loop.items.items ++ item ∷ [] = c.in_ok-push.ensures.items in
    record {
      ready = rw pushed (rw c.deref.ensures.value at c.in_ok-item.ensures.ready);
      same = c.read_line.ensures.same ∙ c.loop.invariant.same;
      count = rw pushed (length_push c.loop.items.items item ∙ ap (λ (n : ℕ). n + 1) c.loop.invariant.count);
      all_read = rw pushed (AllFrom-push read [] c.loop.items.items item c.loop.invariant.all_read (rw (c.loop.invariant.same, c.deref.ensures.value) at c.in_ok-item.ensures.from));
      goes_on = λ tells.
          let good : due (read c.loop.items.items) (cursor c.loop.lines (g.S.Source.left c.loop.source)) ≡ Ok (item, cursor c.read_line.new.lines (g.S.Source.left c.read_line.new.source)) = rw (← c.loop.invariant.same, ← c.deref.ensures.value) (c.in_ok-item.ensures.reads tells) in
          rw pushed (c.loop.invariant.goes_on (c.in_ok-item.ensures.untold tells) ∙ items_go_on read c.args.count c.loop.counter c.loop.items.items _ item _ c.loop-test.true good);
      untold = λ tells. c.loop.invariant.untold (c.in_ok-item.ensures.untold tells);
      later = omega (arith, c.in_ok-item.ensures.cause.later, c.loop.invariant.later);
    }

pub returns-clause-reads : goal.returns-clause-reads
returns-clause-reads g c = λ tells.
    c.loop.invariant.goes_on tells ∙ items_done (g.F.LineForm.reads c.args.form.now) c.args.count c.loop.counter c.loop.items.items _ c.loop-test.false

pub returns-in_err-item-clause-cause : goal.returns-in_err-item-clause-cause
returns-in_err-item-clause-cause g c =
    let p = err_from_is_err_and c.from_residual.result c.from_residual.ensures.1 in
    rw (p.1, p.2) (cause_goes_on _ _ _ _ _ c.loop.invariant.later c.in_err-item.ensures.cause)

pub returns-in_err-item-clause-untold : goal.returns-in_err-item-clause-untold
returns-in_err-item-clause-untold g c = λ tells. c.loop.invariant.untold (c.in_err-item.ensures.untold tells)

pub returns-in_err-push-clause-cause : goal.returns-in_err-push-clause-cause
returns-in_err-push-clause-cause g c =
    let p = err_from_is_err_and c.from_residual-in_err-push.result c.from_residual-in_err-push.ensures.1 in
    rw (p.1, p.2) (record { later = omega (arith, c.in_ok-item.ensures.cause.later, c.loop.invariant.later); failed = λ fault. absurd (cc); ended = λ tells fault. absurd (cc) })

pub returns-in_err-push-clause-untold : goal.returns-in_err-push-clause-untold
returns-in_err-push-clause-untold g c = λ tells. c.loop.invariant.untold (c.in_ok-item.ensures.untold tells)

pub returns-clause-cause : goal.returns-clause-cause
returns-clause-cause g c = record { later = c.loop.invariant.later; failed = λ fault. absurd (cc); ended = λ tells fault. absurd (cc) }
