use Rattle.publication.specs.Certificates.{answer_text}
use Rattle.publication.proofs.answer_writing.put_answer.Goals as goal

pub returns-in-Lottery-clause-puts : goal.returns-in-Lottery-clause-puts
unfolding answer_text
returns-in-Lottery-clause-puts g c = rw c.in-Lottery.is c.put_lottery.ensures.puts

pub returns-in-Infeasible-clause-puts : goal.returns-in-Infeasible-clause-puts
unfolding answer_text
returns-in-Infeasible-clause-puts g c = rw c.in-Infeasible.is c.put_blocked.ensures.puts
