use Rattle.edge_io.proofs.Adding.{adds_front, adds_then}
use Rattle.publication.specs.RulesText.{lists_text}
use Rattle.publication.proofs.rules_writing.write_lists.Goals as goal

pub returns-in_err-write_papers-clause-taken : goal.returns-in_err-write_papers-clause-taken
unfolding lists_text
returns-in_err-write_papers-clause-taken g c = adds_front _ (rw c.papers.ensures.value at c.in_err-write_papers.ensures.taken) c.from_residual.ensures.0

pub returns-clause-taken : goal.returns-clause-taken
unfolding lists_text
returns-clause-taken g c = adds_then (rw c.papers.ensures.value at c.in_ok-write_papers.ensures.taken) (rw (c.reviewers.ensures.value, c.pairs.ensures.value) at c.write_candidates.ensures.taken)
