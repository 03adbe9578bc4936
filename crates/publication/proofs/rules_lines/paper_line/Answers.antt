use Rattle.std.proofs.Common.{refl}
use Rattle.text_lines.specs.Fields.{with_spaces}
use Rattle.publication.specs.RulesText.{paper_line}
use Rattle.publication.proofs.rules_lines.paper_line.Goals as goal

pub returns : goal.returns
unfolding paper_line with_spaces
returns c = rw (c.end_line.ensures, c.push_number.ensures.text, c.begun_with-line.ensures.text, c.text.ensures.same) refl
