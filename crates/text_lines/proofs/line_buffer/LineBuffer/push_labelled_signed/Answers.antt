use Rattle.std.proofs.Common.{append_assoc, refl, rules}
use Rattle.std.specs.Prelude.{FitsSigned}
use Rattle.std.specs.Int.{w128}
use Rattle.std.proofs.lemmas.Int.{to_z-of_z}
use Rattle.text_lines.specs.Labels.{labelled_signed}
use Rattle.text_lines.proofs.line_buffer.LineBuffer.push_labelled_signed.Goals as goal

pub returns-clause-text : goal.returns-clause-text
unfolding labelled_signed
returns-clause-text c =
    let fits : FitsSigned w128 c.args.number = search rules in
    rw (c.push_signed.ensures.text, c.push.ensures, append_assoc, to_z-of_z w128 c.args.number fits) refl
