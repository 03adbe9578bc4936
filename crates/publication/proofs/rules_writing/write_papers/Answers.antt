use Rattle.edge_io.proofs.Adding.{adds_front, adds_then}
use Rattle.text_lines.specs.Forms.{section_text}
use Rattle.publication.proofs.rules_writing.write_papers.Goals as goal

pub returns-in_err-write_count-clause-taken : goal.returns-in_err-write_count-clause-taken
unfolding section_text
returns-in_err-write_count-clause-taken g c = adds_front _ c.in_err-write_count.ensures.taken c.from_residual.ensures.0

pub returns-clause-taken : goal.returns-clause-taken
unfolding section_text
returns-clause-taken g c = adds_then c.in_ok-write_count.ensures.taken c.write_paper_lines.ensures.taken
