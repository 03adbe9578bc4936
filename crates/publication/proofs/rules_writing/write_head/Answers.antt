use Rattle.edge_io.proofs.Adding.{adds_front, adds_then}
use Rattle.text_lines.specs.Texts.{line_of}
use Rattle.publication.specs.RulesText.{head_text}
use Rattle.publication.proofs.rules_writing.write_head.Goals as goal

pub returns-in_err-write_all-clause-taken : goal.returns-in_err-write_all-clause-taken
unfolding line_of head_text
returns-in_err-write_all-clause-taken g c = adds_front _ c.in_err-write_all.ensures.taken c.from_residual.ensures.0

pub returns-clause-taken : goal.returns-clause-taken
unfolding line_of head_text
returns-clause-taken g c = adds_then c.in_ok-write_all.ensures.taken c.write_numbers.ensures.taken
