use Rattle.std.proofs.Common.{arith}
use Rattle.bid_import.specs.Kinds.{columns_of}
use Rattle.table_edits.proofs.Rows.{first_row_is_small}
use Rattle.table_edits.proofs.puts.put_body.Goals as goal

pub put_rows-requires : goal.put_rows-requires
put_rows-requires g c = let small = first_row_is_small (columns_of c.args.file) c.args.body.now in omega (arith, c.in-Ok.ensures)
