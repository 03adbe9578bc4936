use Rattle.std.proofs.Common.{◌∙◌}
use Rattle.roster.proofs.Tables.{insert_put}
use Rattle.roster.proofs.table.add.Goals as goal

pub returns-clause-put : goal.returns-clause-put
returns-clause-put g c =
    let both = insert_put g.R.Row.key c.args.row c.args.rows.now.items c.args.place c.requires in
    c.in_default.ensures.items ∙ both.1
