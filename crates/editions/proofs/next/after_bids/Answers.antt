use Rattle.std.proofs.Common.{refl}
use Rattle.editions.specs.Edits.{venue_after}
use Rattle.editions.proofs.Makes.{then_fails}
use Rattle.editions.proofs.next.after_bids.Goals as goal

pub returns-in-Ok : goal.returns-in-Ok
unfolding venue_after
returns-in-Ok c = rw (← c.venue.view_is, c.in-Ok.ensures) refl

pub returns-in-Err : goal.returns-in-Err
unfolding venue_after
returns-in-Err c = rw (← c.venue.view_is) (then_fails c.in-Err.fault _ _ c.in-Err.ensures)
