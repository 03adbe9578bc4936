use Rattle.std.proofs.Common.{arith}
use Rattle.bid_import.specs.Kinds.{value_row, value_columns}
use Rattle.table_edits.proofs.Rows.{rows_are_few}
use Rattle.table_edits.proofs.bodies.values_after.Goals as goal

pub put_body-requires : goal.put_body-requires
put_body-requires c = let few = rows_are_few value_row value_columns 250000 c.args.body.now c.in_ok-rows.rows.items c.in_ok-rows.ensures in omega arith
