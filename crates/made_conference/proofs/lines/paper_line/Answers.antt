use Rattle.std.proofs.Common.{append_assoc}
use Rattle.text_lines.specs.Texts.{line_of}
use Rattle.made_conference.specs.Rows.{paper_row, with_commas}
use Rattle.made_conference.proofs.lines.paper_line.Goals as goal

pub returns : goal.returns
unfolding paper_row with_commas line_of
returns c = rw (c.push-2.ensures, c.push_institution.ensures.text, c.push.ensures, c.push_paper.ensures.text, c.new-line.ensures) (simp append_assoc)
