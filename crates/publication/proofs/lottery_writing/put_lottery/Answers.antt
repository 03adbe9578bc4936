use Rattle.publication.specs.AnswerText.{lottery_text}
use Rattle.publication.proofs.WaitingLaws.{puts_front, puts_then}
use Rattle.publication.proofs.lottery_writing.put_lottery.Goals as goal

pub returns-in_err-put_head-clause-puts : goal.returns-in_err-put_head-clause-puts
unfolding lottery_text
returns-in_err-put_head-clause-puts g c = puts_front _ c.in_err-put_head.ensures.puts c.from_residual.ensures.0

pub returns-clause-puts : goal.returns-clause-puts
unfolding lottery_text
returns-clause-puts g c = puts_then c.in_ok-put_head.ensures.puts c.put_body.ensures.puts
