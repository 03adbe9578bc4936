use Rattle.publication.specs.AnswerText.{prices_text}
use Rattle.publication.proofs.WaitingLaws.{puts_front, puts_part, puts_then}
use Rattle.publication.proofs.lottery_writing.put_prices.Goals as goal

pub returns-in_err-put_price_list-clause-puts : goal.returns-in_err-put_price_list-clause-puts
unfolding prices_text
returns-in_err-put_price_list-clause-puts g c = puts_front _ (rw c.as_slice.ensures at c.in_err-put_price_list.ensures.puts) c.from_residual.ensures.0

pub returns-in_err-put_price_list-2-clause-puts : goal.returns-in_err-put_price_list-2-clause-puts
unfolding prices_text
returns-in_err-put_price_list-2-clause-puts g c = puts_part _ _ (rw c.as_slice.ensures at c.in_ok-put_price_list.ensures.puts) (rw c.as_slice-2.ensures at c.in_err-put_price_list-2.ensures.puts) c.from_residual-in_err-put_price_list-2.ensures.0

pub returns-clause-puts : goal.returns-clause-puts
unfolding prices_text
returns-clause-puts g c = puts_then (rw c.as_slice.ensures at c.in_ok-put_price_list.ensures.puts) (puts_then (rw c.as_slice-2.ensures at c.in_ok-put_price_list-2.ensures.puts) (rw c.as_slice-3.ensures at c.put_price_list-3.ensures.puts))
