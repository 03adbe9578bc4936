use Rattle.std.proofs.Common.{ap, rules}
use Rattle.std.proofs.lemmas.Int.{to_z-of_z}
use Rattle.std.specs.Int.{w128}
use Rattle.text_lines.specs.Texts.{line_of}
use Rattle.reports.specs.Tables.{paper_line}
use Rattle.reports.proofs.TextLaws.{three_fields}
use Rattle.reports.proofs.papers.paper_line.Goals as goal

pub returns : goal.returns
unfolding paper_line
returns c =
    rw (c.end_line.ensures.text, c.push_signed.ensures.text, c.push_number.ensures.text, c.begun_with-line.ensures.text, c.text.ensures.same, c.from.ensures, to_z-of_z w128 c.args.score (search rules))
    (ap line_of (three_fields _ _ _))
