use Rattle.edge_io.proofs.Adding.{adds_front, adds_then}
use Rattle.matcher_cli.specs.Refusals.{row_line}
use Rattle.matcher_cli.proofs.refusals.write_row.Goals as goal

pub returns-in_err-write_all-clause-taken : goal.returns-in_err-write_all-clause-taken
unfolding row_line
returns-in_err-write_all-clause-taken g c = adds_front _ c.in_err-write_all.ensures.taken c.from_residual.ensures.0

pub returns-clause-taken : goal.returns-clause-taken
unfolding row_line
returns-clause-taken g c = adds_then c.in_ok-write_all.ensures.taken c.write_from_name.ensures.taken
