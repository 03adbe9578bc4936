use Rattle.publication.specs.AnswerText.{dealt_text}
use Rattle.publication.proofs.WaitingLaws.{puts_front, puts_then}
use Rattle.publication.proofs.lottery_writing.put_dealt.Goals as goal

pub returns-in_err-put_shares-clause-puts : goal.returns-in_err-put_shares-clause-puts
unfolding dealt_text
returns-in_err-put_shares-clause-puts g c = puts_front _ (rw c.as_slice.ensures at c.in_err-put_shares.ensures.puts) c.from_residual.ensures.0

pub returns-clause-puts : goal.returns-clause-puts
unfolding dealt_text
returns-clause-puts g c = puts_then (rw c.as_slice.ensures at c.in_ok-put_shares.ensures.puts) c.put_level.ensures.puts
