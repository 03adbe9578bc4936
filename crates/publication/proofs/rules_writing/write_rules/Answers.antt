use Rattle.edge_io.proofs.Adding.{adds_front, adds_then}
use Rattle.publication.specs.RulesText.{rules_text}
use Rattle.publication.proofs.rules_writing.write_rules.Goals as goal

pub returns-in_err-write_head-clause-taken : goal.returns-in_err-write_head-clause-taken
unfolding rules_text
returns-in_err-write_head-clause-taken g c = adds_front _ c.in_err-write_head.ensures.taken c.from_residual.ensures.0

pub returns-clause-taken : goal.returns-clause-taken
unfolding rules_text
returns-clause-taken g c = adds_then c.in_ok-write_head.ensures.taken c.write_rest.ensures.taken
