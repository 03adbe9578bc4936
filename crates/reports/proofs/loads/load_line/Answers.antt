use Rattle.std.proofs.Common.{ap}
use Rattle.text_lines.specs.Texts.{line_of}
use Rattle.reports.specs.Tables.{load_line}
use Rattle.reports.proofs.TextLaws.{four_fields}
use Rattle.reports.proofs.loads.load_line.Goals as goal

pub returns : goal.returns
unfolding load_line
returns c =
    rw (c.end_line.ensures.text, c.push_number-3.ensures.text, c.push_number-2.ensures.text, c.push_number.ensures.text, c.begun_with-line.ensures.text, c.text.ensures.same, c.from.ensures, c.from-2.ensures)
    (ap line_of (four_fields _ _ _ _))
