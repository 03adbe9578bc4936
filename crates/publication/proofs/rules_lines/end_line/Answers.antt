use Rattle.text_lines.specs.Texts.{line_of}
use Rattle.publication.proofs.rules_lines.end_line.Goals as goal

pub returns : goal.returns
unfolding line_of
returns c = c.push.ensures
