use Rattle.publication.specs.InfeasibleText.{infeasible_text}
use Rattle.publication.proofs.WaitingLaws.{puts_front, puts_part, puts_then}
use Rattle.publication.proofs.cut_writing.put_blocked.Goals as goal

pub returns-in_err-put_infeasible_head-clause-puts : goal.returns-in_err-put_infeasible_head-clause-puts
unfolding infeasible_text
returns-in_err-put_infeasible_head-clause-puts g c = puts_front _ c.in_err-put_infeasible_head.ensures.puts c.from_residual.ensures.0

pub returns-in_err-put_cut-clause-puts : goal.returns-in_err-put_cut-clause-puts
unfolding infeasible_text
returns-in_err-put_cut-clause-puts g c = puts_part _ _ c.in_ok-put_infeasible_head.ensures.puts c.in_err-put_cut.ensures.puts c.from_residual-in_err-put_cut.ensures.0

pub returns-clause-puts : goal.returns-clause-puts
unfolding infeasible_text
returns-clause-puts g c = puts_then c.in_ok-put_infeasible_head.ensures.puts (puts_then c.in_ok-put_cut.ensures.puts c.put_sums.ensures.puts)
