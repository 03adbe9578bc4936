use Rattle.edge_io.proofs.Adding.{adds_then}
use Rattle.matcher_cli.proofs.refusals.write_from_name.Goals as goal

pub returns-clause-taken : goal.returns-clause-taken
returns-clause-taken g c =
    adds_then (rw c.as_bytes.ensures.value at c.in_ok-write_all.ensures.taken) (rw (c.as_slice.ensures, c.row_and_code.ensures) at c.write_all-2.ensures.taken)
