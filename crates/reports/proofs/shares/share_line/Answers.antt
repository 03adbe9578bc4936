use Rattle.std.proofs.Common.{ap}
use Rattle.text_lines.specs.Texts.{line_of}
use Rattle.reports.specs.Tables.{share_line}
use Rattle.reports.proofs.TextLaws.{four_fields}
use Rattle.reports.proofs.shares.share_line.Goals as goal

pub returns : goal.returns
unfolding share_line
returns c =
    rw (c.end_line.ensures.text, c.push_number.ensures.text, c.push_score.ensures.text, c.begun_with_pair-line.ensures.text, c.from.ensures, c.pairs.ensures.value)
    (ap line_of (four_fields _ _ _ _))
