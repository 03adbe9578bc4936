use Rattle.publication.proofs.WaitingLaws.{puts_front, puts_part, puts_then}
use Rattle.publication.proofs.lottery_writing.put_body.Goals as goal

pub returns-in_err-put_worth-clause-puts : goal.returns-in_err-put_worth-clause-puts
returns-in_err-put_worth-clause-puts g c = puts_front _ c.in_err-put_worth.ensures.puts c.from_residual.ensures.0

pub returns-in_err-put_dealt-clause-puts : goal.returns-in_err-put_dealt-clause-puts
returns-in_err-put_dealt-clause-puts g c = puts_part _ _ c.in_ok-put_worth.ensures.puts c.in_err-put_dealt.ensures.puts c.from_residual-in_err-put_dealt.ensures.0

pub returns-clause-puts : goal.returns-clause-puts
returns-clause-puts g c = puts_then c.in_ok-put_worth.ensures.puts (puts_then c.in_ok-put_dealt.ensures.puts (rw c.pieces.ensures.value at c.put_pieces.ensures.puts))
