use Rattle.edge_io.proofs.Adding.{adds_front, adds_then}
use Rattle.publication.proofs.rules_writing.write_candidates.Goals as goal

pub returns-in_err-write_reviewers-clause-taken : goal.returns-in_err-write_reviewers-clause-taken
returns-in_err-write_reviewers-clause-taken g c = adds_front _ c.in_err-write_reviewers.ensures.taken c.from_residual.ensures.0

pub returns-clause-taken : goal.returns-clause-taken
returns-clause-taken g c = adds_then c.in_ok-write_reviewers.ensures.taken c.write_pairs.ensures.taken
