use Rattle.std.proofs.Common.{refl}
use Rattle.editions.specs.Edits.{venue_after}
use Rattle.editions.proofs.Keeping.{caps_after_keep}
use Rattle.editions.proofs.Makes.{then_fails, start_keeps_caps}
use Rattle.editions.proofs.next.after_caps.Goals as goal

pub invariant_of-result : goal.invariant_of-result
invariant_of-result c = record {
  demands = c.venue.invariant.demands;
  caps = caps_after_keep _ c.args.body.now c.in-Ok.caps (start_keeps_caps c.args.how c.venue.inside.caps c.venue.invariant.caps) c.in-Ok.ensures;
}

pub returns-in-Ok : goal.returns-in-Ok
unfolding venue_after
returns-in-Ok c = rw (← c.venue.view_is, c.in-Ok.ensures) refl

pub returns-in-Err : goal.returns-in-Err
unfolding venue_after
returns-in-Err c = rw (← c.venue.view_is) (then_fails c.in-Err.fault _ _ c.in-Err.ensures)
