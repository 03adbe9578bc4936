use Rattle.std.proofs.Common.{sym}
use Rattle.roster.proofs.Tables.{found_place, missing}
use Rattle.roster.proofs.table.Table.place_of.Goals as goal

pub returns-in-Ok : goal.returns-in-Ok
returns-in-Ok g c = record { place = rw (← c.self.view_is, ← c.as_slice.ensures.value) (sym (found_place g.R.Row.key _ _ _ c.in-Ok.ensures)) }

pub returns-in-Err : goal.returns-in-Err
returns-in-Err g c =
    let none = missing g.R.Row.key _ _ _ c.in-Err.ensures in
    record { place = rw (← c.self.view_is, ← c.as_slice.ensures.value) (sym none.0) }
