use Rattle.roster.proofs.Tables.{set_put}
use Rattle.roster.proofs.table.replace.Goals as goal

pub returns : goal.returns
returns g c = set_put g.R.Row.key c.args.row c.args.rows.now.items c.args.place c.requires
