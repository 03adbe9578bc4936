use Rattle.roster.proofs.Tables.{ascend-after, stands-after, others-after}
use Rattle.roster.proofs.table.Table.upsert.Goals as goal

pub invariant_of-self : goal.invariant_of-self
invariant_of-self g c =
    (ascend-after g.R.Row.key c.put.result c.args.row c.self.inside.rows.items c.put.new.rows.items c.put.ensures.put c.put.ensures.kept c.self.invariant.0, c.put.ensures.few)

pub returns-clause-stands : goal.returns-clause-stands
returns-clause-stands g c = stands-after g.R.Row.key c.put.result c.args.row c.self.inside.rows.items c.put.new.rows.items c.put.ensures.put

pub returns-clause-others : goal.returns-clause-others
returns-clause-others g c = rw (← c.self.view_is) (others-after g.R.Row.key c.put.result c.args.row c.self.inside.rows.items c.put.new.rows.items c.put.ensures.put)
