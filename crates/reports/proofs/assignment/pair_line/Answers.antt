use Rattle.std.proofs.Common.{ap}
use Rattle.text_lines.specs.Texts.{line_of}
use Rattle.reports.specs.Tables.{pair_line}
use Rattle.reports.proofs.TextLaws.{two_fields}
use Rattle.reports.proofs.assignment.pair_line.Goals as goal

pub returns : goal.returns
unfolding pair_line
returns c = rw (c.end_line.ensures.text, c.begun_with_pair-line.ensures.text) (ap line_of (two_fields _ _))
