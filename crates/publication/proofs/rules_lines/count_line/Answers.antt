use Rattle.std.proofs.Common.{ℕ, append_assoc, length-append, refl, arith}
use Rattle.text_lines.specs.Fields.{with_spaces}
use Rattle.text_lines.specs.Forms.{count_line}
use Rattle.text_lines.specs.Texts.{line_of}
use Rattle.publication.proofs.rules_lines.count_line.Goals as goal

pub returns-clause-text : goal.returns-clause-text
unfolding count_line with_spaces
returns-clause-text c = rw (c.end_line.ensures, c.push_number.ensures.text, c.push-2.ensures, c.push.ensures, c.new-line.ensures, append_assoc) refl

pub returns-clause-few : goal.returns-clause-few
unfolding line_of
returns-clause-few c =
    let few = c.push_number.ensures.few in
    rw c.end_line.ensures (grind (arith, length-append {A = ℕ}))
