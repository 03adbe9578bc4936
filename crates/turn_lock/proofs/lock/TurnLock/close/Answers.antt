use Rattle.std.proofs.Common.{sym, subst, ap, ◌∙◌, ◌+◌, IfSome}
use mathlib.Core.List.{IsPrefix}
use Rattle.turn_lock.proofs.Hands.{free_idle, not_both}
use Rattle.turn_lock.proofs.Ends.{closes_ok}
use Rattle.turn_lock.proofs.lock.TurnLock.close.Goals as goal

pub returns-then-next-serving-clause-past : goal.returns-then-next-serving-clause-past
returns-then-next-serving-clause-past g c =
    let idle = free_idle _ _ (ap (λ p. p.held) c.pass.view_is ∙ c.requires.free) c.pass.invariant.2 in
    let told = closes_ok g.V.Grows.past _ _ _ _ _ _ _ idle.0 c.close_with-closed.ensures.values.2 c.word-next.ensures c.word-serving.ensures c.take-slot.ensures.value in
    let even = told.0 c.if-next-serving.true in
    subst (λ slot. IfSome slot (λ v. IsPrefix c.args.pass.seen (g.V.Grows.past v))) (sym even.1) (subst (λ seen. IsPrefix seen (g.V.Grows.past even.0)) (ap (λ p. p.seen) c.pass.view_is) even.2)

pub returns-then-next-serving-clause-none : goal.returns-then-next-serving-clause-none
returns-then-next-serving-clause-none g c = λ empty whole.
    let idle = free_idle _ _ (ap (λ p. p.held) c.pass.view_is ∙ c.requires.free) c.pass.invariant.2 in
    let told = closes_ok g.V.Grows.past _ _ _ _ _ _ _ idle.0 c.close_with-closed.ensures.values.2 c.word-next.ensures c.word-serving.ensures c.take-slot.ensures.value in
    let even = told.0 c.if-next-serving.true in
    not_both _ _ even.1 empty

pub returns-clause-none : goal.returns-clause-none
returns-clause-none g c = λ _ whole.
    let idle = free_idle _ _ (ap (λ p. p.held) c.pass.view_is ∙ c.requires.free) c.pass.invariant.2 in
    let told = closes_ok g.V.Grows.past _ _ _ _ _ _ _ idle.0 c.close_with-closed.ensures.values.2 c.word-next.ensures c.word-serving.ensures c.take-slot.ensures.value in
    told.1 c.if-next-serving.false (ap (λ p. p.turns + p.taken) c.pass.view_is ∙ whole)
