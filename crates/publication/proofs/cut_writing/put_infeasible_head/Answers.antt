use Rattle.text_lines.specs.Texts.{line_of}
use Rattle.publication.specs.InfeasibleText.{infeasible_head_text}
use Rattle.publication.proofs.WaitingLaws.{puts_front, puts_then}
use Rattle.publication.proofs.cut_writing.put_infeasible_head.Goals as goal

pub returns-in_err-put_text-clause-puts : goal.returns-in_err-put_text-clause-puts
unfolding line_of infeasible_head_text
returns-in_err-put_text-clause-puts g c = puts_front _ c.in_err-put_text.ensures.puts c.from_residual.ensures.0

pub returns-clause-puts : goal.returns-clause-puts
unfolding line_of infeasible_head_text
returns-clause-puts g c = puts_then c.in_ok-put_text.ensures.puts c.put_mode.ensures.puts
