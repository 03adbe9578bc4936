use Rattle.publication.proofs.CertificateLaws.{certificate_again}
use Rattle.publication.proofs.WaitingLaws.{wrote_waiting, wrote_part}
use Rattle.publication.proofs.answer_writing.write_answer.Goals as goal

pub returns-in_err-put_answer-clause-taken : goal.returns-in_err-put_answer-clause-taken
returns-in_err-put_answer-clause-taken g c = wrote_part (rw c.new-waiting.ensures at c.in_err-put_answer.ensures.puts) c.from_residual.ensures.0

pub returns-in_err-put_answer-clause-again : goal.returns-in_err-put_answer-clause-again
returns-in_err-put_answer-clause-again g c = certificate_again 1 c.args.rules.now c.args.answer.now c.requires.matching

pub returns-clause-taken : goal.returns-clause-taken
returns-clause-taken g c = wrote_waiting (rw c.new-waiting.ensures at c.in_ok-put_answer.ensures.puts) (rw c.as_slice.ensures at c.write_all.ensures.taken)

pub returns-clause-again : goal.returns-clause-again
returns-clause-again g c = certificate_again 1 c.args.rules.now c.args.answer.now c.requires.matching
