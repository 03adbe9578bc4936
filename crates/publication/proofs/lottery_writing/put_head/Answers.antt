use Rattle.text_lines.specs.Texts.{line_of}
use Rattle.publication.specs.AnswerText.{answer_head_text}
use Rattle.publication.proofs.WaitingLaws.{puts_front, puts_part, puts_then}
use Rattle.publication.proofs.lottery_writing.put_head.Goals as goal

pub returns-in_err-put_text-clause-puts : goal.returns-in_err-put_text-clause-puts
unfolding line_of answer_head_text
returns-in_err-put_text-clause-puts g c = puts_front _ c.in_err-put_text.ensures.puts c.from_residual.ensures.0

pub returns-in_err-put_mode-clause-puts : goal.returns-in_err-put_mode-clause-puts
unfolding line_of answer_head_text
returns-in_err-put_mode-clause-puts g c = puts_part _ _ c.in_ok-put_text.ensures.puts c.in_err-put_mode.ensures.puts c.from_residual-in_err-put_mode.ensures.0

pub returns-clause-puts : goal.returns-clause-puts
unfolding line_of answer_head_text
returns-clause-puts g c = puts_then c.in_ok-put_text.ensures.puts (puts_then c.in_ok-put_mode.ensures.puts c.put_threshold.ensures.puts)
