use Rattle.std.proofs.Common.{sym, ap, ◌∙◌, Some}
use Rattle.roster.specs.Table.{IsAt}
use Rattle.roster.proofs.Tables.{found_row, missing}
use Rattle.roster.proofs.table.Table.get.Goals as goal

pub returns-in-Ok : goal.returns-in-Ok
returns-in-Ok g c =
    let here : IsAt g.R.Row.key c.args.id.now c.self.inside.rows.items c.in-Ok.place = rw (← c.as_slice.ensures.value) c.in-Ok.ensures in
    let read = found_row g.R.Row.key c.args.id.now c.self.inside.rows.items c.in-Ok.place c.index.result.now here in
    rw (← c.self.view_is) (ap Some c.index.ensures ∙ sym read.1)

pub returns-in-Err : goal.returns-in-Err
returns-in-Err g c =
    let none = missing g.R.Row.key _ _ _ c.in-Err.ensures in
    rw (← c.self.view_is, ← c.as_slice.ensures.value) (sym none.1)
