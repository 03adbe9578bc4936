use Rattle.publication.specs.InfeasibleText.{marked_text}
use Rattle.publication.proofs.WaitingLaws.{puts_front, puts_part, puts_then}
use Rattle.publication.proofs.cut_writing.put_marked.Goals as goal

pub returns-in_err-put_places-clause-puts : goal.returns-in_err-put_places-clause-puts
unfolding marked_text
returns-in_err-put_places-clause-puts g c = puts_front _ (rw c.as_slice.ensures at c.in_err-put_places.ensures.puts) c.from_residual.ensures.0

pub returns-in_err-put_places-2-clause-puts : goal.returns-in_err-put_places-2-clause-puts
unfolding marked_text
returns-in_err-put_places-2-clause-puts g c = puts_part _ _ (rw c.as_slice.ensures at c.in_ok-put_places.ensures.puts) (rw c.as_slice-2.ensures at c.in_err-put_places-2.ensures.puts) c.from_residual-in_err-put_places-2.ensures.0

pub returns-clause-puts : goal.returns-clause-puts
unfolding marked_text
returns-clause-puts g c = puts_then (rw c.as_slice.ensures at c.in_ok-put_places.ensures.puts) (puts_then (rw c.as_slice-2.ensures at c.in_ok-put_places-2.ensures.puts) (rw c.as_slice-3.ensures at c.put_places-3.ensures.puts))
