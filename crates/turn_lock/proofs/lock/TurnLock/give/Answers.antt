use Rattle.std.proofs.Common.{rules, sym, subst, ap, ◌∙◌, IsSomeAnd, Option}
use mathlib.Core.List.{IsPrefix}
use Rattle.atomic_table.specs.Table.{Me, rest}
use Rattle.turn_lock.specs.declared.view.View.{View}
use Rattle.turn_lock.specs.declared.view.Stage.TheVariants.{Idle}
use Rattle.turn_lock.specs.Steps.{held_of, at_stage, with_past}
use Rattle.turn_lock.specs.Hands.{Rests}
use Rattle.turn_lock.proofs.Hands.{held_holds, some_case, given_value}
use Rattle.turn_lock.proofs.Gives.{stores_ok, passes_ok}
use Rattle.turn_lock.proofs.lock.TurnLock.give.Goals as goal

pub store-requires : goal.store-requires
store-requires g c =
    let held = held_holds _ _ (λ past. IsPrefix past (g.V.Grows.past c.args.value)) (subst (λ h. IsSomeAnd h (λ past. IsPrefix past (g.V.Grows.past c.args.value))) (sym (ap (λ p. p.held) c.pass.view_is)) c.requires.past) c.pass.invariant.2 in
    let now = c.hand_in.ensures.view in
    (search rules, search rules, stores_ok g.V.Grows.past _ _ _ held.0 held.1 c.args.value _ (ap (λ m. m.0.stage) now ∙ held.2) (ap (λ m. m.1) now) held.4 c.length-length.ensures.length)

pub fetch_add-requires : goal.fetch_add-requires
fetch_add-requires g c =
    let held = held_holds _ _ (λ past. IsPrefix past (g.V.Grows.past c.args.value)) (subst (λ h. IsSomeAnd h (λ past. IsPrefix past (g.V.Grows.past c.args.value))) (sym (ap (λ p. p.held) c.pass.view_is)) c.requires.past) c.pass.invariant.2 in
    let now = c.hand_in.ensures.view in
    let told = c.store.ensures.2 held.0 held.1 c.args.value (ap (λ m. m.0.stage) now ∙ held.2) (ap (λ m. m.1) now) in
    (search rules, search rules, passes_ok g.V.Grows.past _ _ _ held.0 c.args.value (ap (λ m. m.0.stage) told) (ap (λ m. m.1) told ∙ ap (λ m. m.1) now) (sym (ap (λ m. m.0.seen) told)))

pub invariant_of-pass : goal.invariant_of-pass
invariant_of-pass g c =
    let held = held_holds _ _ (λ past. IsPrefix past (g.V.Grows.past c.args.value)) (subst (λ h. IsSomeAnd h (λ past. IsPrefix past (g.V.Grows.past c.args.value))) (sym (ap (λ p. p.held) c.pass.view_is)) c.requires.past) c.pass.invariant.2 in
    let now = c.hand_in.ensures.view in
    let told = c.store.ensures.2 held.0 held.1 c.args.value (ap (λ m. m.0.stage) now ∙ held.2) (ap (λ m. m.1) now) in
    let last = c.fetch_add.ensures.2 in (
      c.pass.invariant.0 ∙ sym (ap (λ m. m.0.turns) last ∙ (ap (λ m. m.0.turns) told ∙ ap (λ m. m.0.turns) now)),
      subst g.V.Grows.lawful (sym (ap (λ m. m.0.seen) last ∙ ap (λ m. m.0.seen) told)) c.length-length.ensures.lawful,
      subst (λ (m : Me (Option g.row.V.Denot) (View g.row.V-Entry.Denot)). Rests m.0.stage m.1) (sym last) (ap (λ m. rest m.1) told ∙ ap (λ m. rest m.1) now),
    )

pub returns : goal.returns
returns g c =
    let held = held_holds _ _ (λ past. IsPrefix past (g.V.Grows.past c.args.value)) (subst (λ h. IsSomeAnd h (λ past. IsPrefix past (g.V.Grows.past c.args.value))) (sym (ap (λ p. p.held) c.pass.view_is)) c.requires.past) c.pass.invariant.2 in
    let now = c.hand_in.ensures.view in
    let told = c.store.ensures.2 held.0 held.1 c.args.value (ap (λ m. m.0.stage) now ∙ held.2) (ap (λ m. m.1) now) in
    let last = c.fetch_add.ensures.2 in
    some_case _ _ held.1 (sym (ap (λ p. p.held) c.pass.view_is) ∙ ap held_of held.2)
    (given_value _ _ c.pass.inside.seat.me.0 _ _ held.0 held.1 (g.V.Grows.past c.args.value) c.pass.view_is (c.fetch_add.ensures.0 ∙ (c.store.ensures.0 ∙ c.hand_in.ensures.table))
    (ap (λ m. m.0) last ∙ (ap (λ m. at_stage m.0 Idle) told ∙ ap (λ m. at_stage (with_past m.0 held.0 held.1 (g.V.Grows.past c.args.value)) Idle) now)))
