use Rattle.std.proofs.Common.{append_assoc, refl}
use Rattle.text_lines.specs.Labels.{labelled}
use Rattle.text_lines.proofs.line_buffer.LineBuffer.push_labelled.Goals as goal

pub returns-clause-text : goal.returns-clause-text
unfolding labelled
returns-clause-text c = rw (c.push_number.ensures.text, c.push.ensures, append_assoc) refl
