use Rattle.std.proofs.Common.{refl, sym}
use Rattle.editions.specs.Edits.{venue_after}
use Rattle.editions.proofs.Makes.{then_fails}
use Rattle.editions.proofs.next.after_values.Goals as goal

pub returns-then-not-has_values : goal.returns-then-not-has_values
unfolding venue_after
returns-then-not-has_values c =
    let unknown = rw (c.spec.ensures.same, c.as_str.ensures) at (sym c.if-not-has_values.ensures) in
    rw (← c.venue.view_is, unknown) refl

pub returns-in-Ok : goal.returns-in-Ok
unfolding venue_after
returns-in-Ok c =
    let known = rw (c.spec.ensures.same, c.as_str.ensures) at (sym c.if-not-has_values.ensures) in
    let made = rw c.as_str-2.ensures at c.in-Ok.ensures in
    rw (← c.venue.view_is, known, made) refl

pub returns-in-Err : goal.returns-in-Err
unfolding venue_after
returns-in-Err c =
    let known = rw (c.spec.ensures.same, c.as_str.ensures) at (sym c.if-not-has_values.ensures) in
    let fails = rw c.as_str-2.ensures at c.in-Err.ensures in
    rw (← c.venue.view_is, known) (then_fails c.in-Err.fault _ _ fails)
