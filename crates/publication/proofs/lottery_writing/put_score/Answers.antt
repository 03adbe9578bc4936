use Rattle.std.proofs.Common.{◌≡◌, ◌∙◌, rules}
use Rattle.std.proofs.lemmas.Int.{to_z-of_z}
use Rattle.std.specs.Int.{w64, w128}
use Rattle.std.specs.Prelude.{FitsSigned}
use Rattle.text_lines.specs.Texts.{line_of}
use Rattle.text_lines.specs.Fields.{with_spaces}
use Rattle.publication.specs.AskedForms.{score_line}
use Rattle.publication.proofs.WaitingLaws.{puts_front, puts_then}
use Rattle.publication.proofs.lottery_writing.put_score.Goals as goal

pub returns-in_err-put_text-clause-puts : goal.returns-in_err-put_text-clause-puts
unfolding line_of with_spaces score_line
returns-in_err-put_text-clause-puts g c = puts_front _ c.in_err-put_text.ensures.puts c.from_residual.ensures.0

pub returns-clause-puts : goal.returns-clause-puts
unfolding line_of with_spaces score_line
returns-clause-puts g c =
    let narrow : FitsSigned w64 c.args.score = search rules in
    let wide : FitsSigned w128 c.from.result = search rules in
    let is : c.from.result ≡ c.args.score = c.from.ensures ∙ to_z-of_z w64 c.args.score narrow in
    puts_then c.in_ok-put_text.ensures.puts (rw (to_z-of_z w128 c.from.result wide, is) at c.put_signed.ensures.puts)
