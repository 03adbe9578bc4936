use Rattle.text_lines.specs.Texts.{line_of}
use Rattle.edge_io.proofs.Adding.{adds_front, adds_then, adds_failed}
use Rattle.reports.proofs.TextLaws.{adds_ended}
use Rattle.reports.proofs.assignment.write_assignment.Goals as goal

pub returns-in_err-write_all-clause-taken : goal.returns-in_err-write_all-clause-taken
unfolding line_of
returns-in_err-write_all-clause-taken g c = adds_front _ c.in_err-write_all.ensures.taken c.from_residual.ensures.0

pub returns-in_err-write_pair_lines-clause-taken : goal.returns-in_err-write_pair_lines-clause-taken
unfolding line_of
returns-in_err-write_pair_lines-clause-taken g c = adds_then c.in_ok-write_all.ensures.taken (adds_failed c.in_err-write_pair_lines.ensures.taken c.from_residual-in_err-write_pair_lines.ensures.0)

pub returns-clause-taken : goal.returns-clause-taken
unfolding line_of
returns-clause-taken g c = adds_then c.in_ok-write_all.ensures.taken (adds_ended c.in_ok-write_pair_lines.ensures.taken)
