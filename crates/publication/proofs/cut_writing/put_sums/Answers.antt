use Rattle.text_lines.specs.Texts.{line_of}
use Rattle.publication.specs.InfeasibleText.{sums_text}
use Rattle.publication.proofs.WaitingLaws.{puts_front, puts_part, puts_then}
use Rattle.publication.proofs.cut_writing.put_sums.Goals as goal

pub returns-in_err-put_count-clause-puts : goal.returns-in_err-put_count-clause-puts
unfolding line_of sums_text
returns-in_err-put_count-clause-puts g c = puts_front _ c.in_err-put_count.ensures.puts c.from_residual.ensures.0

pub returns-in_err-put_count-2-clause-puts : goal.returns-in_err-put_count-2-clause-puts
unfolding line_of sums_text
returns-in_err-put_count-2-clause-puts g c = puts_part _ _ c.in_ok-put_count.ensures.puts c.in_err-put_count-2.ensures.puts c.from_residual-in_err-put_count-2.ensures.0

pub returns-clause-puts : goal.returns-clause-puts
unfolding line_of sums_text
returns-clause-puts g c = puts_then c.in_ok-put_count.ensures.puts (puts_then c.in_ok-put_count-2.ensures.puts c.put_text.ensures.puts)
