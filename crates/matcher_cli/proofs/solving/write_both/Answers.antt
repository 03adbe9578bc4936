use Rattle.edge_io.proofs.Adding.{adds_front, adds_then}
use Rattle.publication.specs.Certificates.{certificate_text}
use Rattle.matcher_cli.proofs.solving.write_both.Goals as goal

pub returns-in_err-write_rules-clause-taken : goal.returns-in_err-write_rules-clause-taken
unfolding certificate_text
returns-in_err-write_rules-clause-taken g c = adds_front _ c.in_err-write_rules.ensures.taken c.from_residual.ensures.0

pub returns-clause-taken : goal.returns-clause-taken
unfolding certificate_text
returns-clause-taken g c = adds_then c.in_ok-write_rules.ensures.taken c.write_answer.ensures.taken
