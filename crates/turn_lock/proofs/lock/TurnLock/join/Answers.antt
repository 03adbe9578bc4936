use Rattle.std.proofs.Common.{rules, arith, sym, subst, ap, ◌∙◌, ◌≡◌, ◌+◌, ◌≤◌, ◌^◌, List, ◌⊎◌, Option}
use mathlib.Core.List.{IsPrefix}
use Rattle.atomic_table.specs.Table.{Me}
use Rattle.turn_lock.specs.declared.view.View.{View}
use Rattle.turn_lock.specs.Passes.{longer}
use Rattle.turn_lock.specs.Hands.{Rests}
use Rattle.turn_lock.proofs.Hands.{free_idle}
use Rattle.turn_lock.proofs.Prefixes.{longer_one}
use Rattle.turn_lock.proofs.Shares.{joins_ok, settles_ok}
use Rattle.turn_lock.proofs.lock.TurnLock.join.Goals as goal

pub join_seat-requires : goal.join_seat-requires
join_seat-requires g c =
    let mine = free_idle _ _ (ap (λ p. p.held) c.pass.view_is ∙ c.requires.free.0) c.pass.invariant.2 in
    let theirs = free_idle _ _ (ap (λ p. p.held) c.other.view_is ∙ c.requires.free.1) c.other.invariant.2 in
    (search rules, search rules, theirs.1, search rules, joins_ok g.V.Grows.past _ _ _ _ mine.0 theirs.0)

pub load-requires : goal.load-requires
load-requires g c = (search rules, search rules, settles_ok g.V.Grows.past _ _ _ c.other.inside.seat.me.0.seen (ap (λ m. m.0.stage) c.join_seat.ensures.2))

pub overflow_add-pass : goal.overflow_add-pass
overflow_add-pass g c =
    let told = c.load.ensures.2 c.other.inside.seat.me.0.seen (ap (λ m. m.0.stage) c.join_seat.ensures.2) in
    let few : c.join_seat.new.seat.me.0.turns ≤ 2 ^ 62 = told.2 in
    let sum : c.join_seat.new.seat.me.0.turns ≡ c.pass.inside.seat.me.0.turns + c.other.inside.seat.me.0.turns = ap (λ m. m.0.turns) c.join_seat.ensures.2 in
    let mine = c.pass.invariant.0 in
    let theirs = c.other.invariant.0 in omega arith

pub invariant_of-pass : goal.invariant_of-pass
invariant_of-pass g c =
    let told = c.load.ensures.2 c.other.inside.seat.me.0.seen (ap (λ m. m.0.stage) c.join_seat.ensures.2) in
    let seen_is : c.load.new.seat.me.0.seen ≡ longer c.pass.inside.seat.me.0.seen c.other.inside.seat.me.0.seen =
    ap (λ m. m.0.seen) told.0 ∙ ap (λ m. longer m.0.seen c.other.inside.seat.me.0.seen) c.join_seat.ensures.2 in
    let turns_is : c.load.new.seat.me.0.turns ≡ c.pass.inside.seat.me.0.turns + c.other.inside.seat.me.0.turns = ap (λ m. m.0.turns) told.0 ∙ ap (λ m. m.0.turns) c.join_seat.ensures.2 in
    let mine = c.pass.invariant.0 in
    let theirs = c.other.invariant.0 in
    let empty = (free_idle _ _ (ap (λ p. p.held) c.pass.view_is ∙ c.requires.free.0) c.pass.invariant.2).1 in (
      omega arith,
      subst g.V.Grows.lawful (sym seen_is) (longer_one g.V.Grows.lawful _ _ c.pass.invariant.1 c.other.invariant.1),
      subst (λ (m : Me (Option g.row.V.Denot) (View g.row.V-Entry.Denot)). Rests m.0.stage m.1) (sym told.0) (ap (λ m. m.1) c.join_seat.ensures.2 ∙ empty),
    )

pub returns-clause-meet : goal.returns-clause-meet
returns-clause-meet g c =
    let told = c.load.ensures.2 c.other.inside.seat.me.0.seen (ap (λ m. m.0.stage) c.join_seat.ensures.2) in
    let mine = ap (λ m. m.0.seen) c.join_seat.ensures.2 ∙ ap (λ p. p.seen) c.pass.view_is in
    let theirs = ap (λ p. p.seen) c.other.view_is in
    subst (λ (z : List g.row.V-Entry.Denot × List g.row.V-Entry.Denot). IsPrefix z.0 z.1 ⊎ IsPrefix z.1 z.0) (λ i. (mine i, theirs i)) told.1.0

pub returns-clause-later : goal.returns-clause-later
returns-clause-later g c =
    let told = c.load.ensures.2 c.other.inside.seat.me.0.seen (ap (λ m. m.0.stage) c.join_seat.ensures.2) in
    let mine = ap (λ m. m.0.seen) c.join_seat.ensures.2 ∙ ap (λ p. p.seen) c.pass.view_is in
    let theirs = ap (λ p. p.seen) c.other.view_is in
    let now = sym (ap (λ m. m.0.seen) told.0) in
    subst (λ (z : List g.row.V-Entry.Denot × List g.row.V-Entry.Denot × List g.row.V-Entry.Denot). IsPrefix z.0 z.2 × IsPrefix z.1 z.2) (λ i. (mine i, theirs i, now i)) (told.1.1, told.1.2)
