use Rattle.text_lines.specs.Texts.{line_of}
use Rattle.publication.specs.CutForms.{side_line}
use Rattle.publication.proofs.cut_writing.put_side.Goals as goal

pub returns-in-Into-clause-puts : goal.returns-in-Into-clause-puts
unfolding line_of side_line
returns-in-Into-clause-puts g c = rw c.in-Into.is c.put_text.ensures.puts

pub returns-in-OutOf-clause-puts : goal.returns-in-OutOf-clause-puts
unfolding line_of side_line
returns-in-OutOf-clause-puts g c = rw c.in-OutOf.is c.put_text-in-OutOf.ensures.puts
