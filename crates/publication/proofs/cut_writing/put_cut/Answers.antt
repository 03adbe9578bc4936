use Rattle.publication.specs.InfeasibleText.{cut_text}
use Rattle.publication.proofs.WaitingLaws.{puts_front, puts_then}
use Rattle.publication.proofs.cut_writing.put_cut.Goals as goal

pub returns-in_err-put_side-clause-puts : goal.returns-in_err-put_side-clause-puts
unfolding cut_text
returns-in_err-put_side-clause-puts g c = puts_front _ c.in_err-put_side.ensures.puts c.from_residual.ensures.0

pub returns-clause-puts : goal.returns-clause-puts
unfolding cut_text
returns-clause-puts g c = puts_then c.in_ok-put_side.ensures.puts c.put_marked.ensures.puts
