use Rattle.edge_io.proofs.Adding.{adds_front, adds_then}
use Rattle.text_lines.specs.Texts.{line_of}
use Rattle.publication.proofs.rules_writing.write_rest.Goals as goal

pub returns-in_err-write_lists-clause-taken : goal.returns-in_err-write_lists-clause-taken
unfolding line_of
returns-in_err-write_lists-clause-taken g c = adds_front _ c.in_err-write_lists.ensures.taken c.from_residual.ensures.0

pub returns-clause-taken : goal.returns-clause-taken
unfolding line_of
returns-clause-taken g c = adds_then c.in_ok-write_lists.ensures.taken c.write_all.ensures.taken
