use Rattle.text_lines.specs.Texts.{line_of}
use Rattle.publication.specs.AskedForms.{mode_line}
use Rattle.publication.proofs.cut_writing.put_mode.Goals as goal

pub returns-in-Whole-clause-puts : goal.returns-in-Whole-clause-puts
unfolding line_of mode_line
returns-in-Whole-clause-puts g c = rw c.in-Whole.is c.put_text.ensures.puts

pub returns-in-Fair-clause-puts : goal.returns-in-Fair-clause-puts
unfolding line_of mode_line
returns-in-Fair-clause-puts g c = rw c.in-Fair.is c.put_text-in-Fair.ensures.puts
