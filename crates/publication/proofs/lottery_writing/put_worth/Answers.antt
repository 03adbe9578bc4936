use Rattle.std.proofs.Common.{rules}
use Rattle.std.proofs.lemmas.Int.{to_z-of_z}
use Rattle.std.specs.Int.{w128}
use Rattle.text_lines.specs.Texts.{line_of}
use Rattle.text_lines.specs.Fields.{with_spaces}
use Rattle.publication.specs.AnswerForms.{total_line}
use Rattle.publication.specs.AnswerText.{worth_text}
use Rattle.publication.proofs.WaitingLaws.{puts_front, puts_part, puts_then}
use Rattle.publication.proofs.lottery_writing.put_worth.Goals as goal

pub returns-in_err-put_text-clause-puts : goal.returns-in_err-put_text-clause-puts
unfolding line_of with_spaces total_line worth_text
returns-in_err-put_text-clause-puts g c = puts_front _ c.in_err-put_text.ensures.puts c.from_residual.ensures.0

pub returns-in_err-put_signed-clause-puts : goal.returns-in_err-put_signed-clause-puts
unfolding line_of with_spaces total_line worth_text
returns-in_err-put_signed-clause-puts g c = puts_part _ _ c.in_ok-put_text.ensures.puts (rw (to_z-of_z w128 c.args.winning.now.total (search rules)) at c.in_err-put_signed.ensures.puts) c.from_residual-in_err-put_signed.ensures.0

pub returns-clause-puts : goal.returns-clause-puts
unfolding line_of with_spaces total_line worth_text
returns-clause-puts g c = puts_then c.in_ok-put_text.ensures.puts (puts_then (rw (to_z-of_z w128 c.args.winning.now.total (search rules)) at c.in_ok-put_signed.ensures.puts) c.put_prices.ensures.puts)
