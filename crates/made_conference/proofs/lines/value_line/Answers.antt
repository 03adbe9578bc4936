use Rattle.std.proofs.Common.{append_assoc}
use Rattle.text_lines.specs.Texts.{line_of}
use Rattle.made_conference.specs.Rows.{value_row, with_commas}
use Rattle.made_conference.proofs.lines.value_line.Goals as goal

pub returns : goal.returns
unfolding value_row with_commas line_of
returns c = rw (c.push.ensures, c.push_value.ensures.text, c.begun_with-line.ensures.text) (simp append_assoc)
