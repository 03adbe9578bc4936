use Rattle.publication.proofs.CertificateLaws.{certificate_from}
use Rattle.publication.proofs.single_texts.answer_and_end.Goals as goal

pub returns-clause-matching : goal.returns-clause-matching
returns-clause-matching c =
    certificate_from c.args.rules.now c.in_ok-answer.answer c.kept_sizes.ensures.kept c.in_ok-answer.ensures.suits (rw c.kept_sizes.ensures.same at c.in_ok-answer.ensures.fits)
