use Rattle.text_lines.specs.Forms.{section_text}
use Rattle.publication.proofs.WaitingLaws.{puts_front, puts_then}
use Rattle.publication.proofs.lottery_writing.put_shares.Goals as goal

pub returns-in_err-put_count-clause-puts : goal.returns-in_err-put_count-clause-puts
unfolding section_text
returns-in_err-put_count-clause-puts g c = puts_front _ c.in_err-put_count.ensures.puts c.from_residual.ensures.0

pub returns-clause-puts : goal.returns-clause-puts
unfolding section_text
returns-clause-puts g c = puts_then c.in_ok-put_count.ensures.puts c.put_share_lines.ensures.puts
