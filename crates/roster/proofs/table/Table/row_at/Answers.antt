use Rattle.std.proofs.Common.{refl}
use Rattle.std.proofs.lemmas.Option.{slice_get_read}
use Rattle.roster.proofs.table.Table.row_at.Goals as goal

pub returns : goal.returns
returns g c = rw (← c.self.view_is) (slice_get_read c.self.inside.rows.items _ c.args.place _ refl (rw (← c.self.view_is) at c.requires) c.index.ensures)
