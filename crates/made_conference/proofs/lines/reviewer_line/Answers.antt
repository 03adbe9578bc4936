use Rattle.std.proofs.Common.{append_assoc}
use Rattle.text_lines.specs.Texts.{line_of}
use Rattle.made_conference.specs.Rows.{reviewer_row, with_commas}
use Rattle.made_conference.proofs.lines.reviewer_line.Goals as goal

pub returns : goal.returns
unfolding reviewer_row with_commas line_of
returns c = rw (c.push-2.ensures, c.push_institution.ensures.text, c.push.ensures, c.push_reviewer.ensures.text, c.new-line.ensures) (simp append_assoc)
