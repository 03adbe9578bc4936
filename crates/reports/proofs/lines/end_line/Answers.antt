use Rattle.text_lines.specs.Texts.{line_of}
use Rattle.reports.proofs.lines.end_line.Goals as goal

pub returns-clause-text : goal.returns-clause-text
unfolding line_of
returns-clause-text c = c.push.ensures
