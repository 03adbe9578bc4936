use Rattle.std.proofs.Common.{ap}
use Rattle.text_lines.specs.Texts.{line_of}
use Rattle.reports.specs.Institutions.{institution_line}
use Rattle.reports.proofs.TextLaws.{two_fields}
use Rattle.reports.proofs.institutions.institution_line.Goals as goal

pub returns : goal.returns
unfolding institution_line
returns c = rw (c.end_line.ensures.text, c.push_number.ensures.text, c.begun_with_institution-line.ensures.text) (ap line_of (two_fields _ _))
