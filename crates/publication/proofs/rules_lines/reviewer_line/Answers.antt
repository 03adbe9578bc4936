use Rattle.std.proofs.Common.{ap}
use Rattle.text_lines.specs.Texts.{line_of}
use Rattle.publication.specs.RulesText.{reviewer_line}
use Rattle.publication.proofs.WriteLaws.{fields_and_last}
use Rattle.publication.proofs.rules_lines.reviewer_line.Goals as goal

pub returns : goal.returns
unfolding reviewer_line
returns c =
    rw (c.end_line.ensures, c.push_institution.ensures.text, c.push_number-2.ensures.text, c.push_number.ensures.text, c.begun_with-line.ensures.text, c.text.ensures.same)
    (ap line_of (fields_and_last _ _ _ _))
