use Rattle.std.proofs.Common.{arith}
use Rattle.match_rules.proofs.Fronts.{all_rows_of_pairs, first_pair}
use Rattle.match_rules.proofs.parts.pair_fault.Goals as goal

pub returns-then-not-is_next_pair-clause-fault : goal.returns-then-not-is_next_pair-clause-fault
returns-then-not-is_next_pair-clause-fault c =
    first_pair c.args.tickets c.args.papers c.args.reviewers c.args.pairs.now c.loop-e.e (omega arith) c.loop-e.invariant.0
    (λ next. let yes = c.if-not-is_next_pair.ensures.1 next in cc)

pub returns-then-not-is_next_pair-clause-none : goal.returns-then-not-is_next_pair-clause-none
returns-then-not-is_next_pair-clause-none c = (
  λ none. absurd (cc),
  λ all. let yes = c.if-not-is_next_pair.ensures.1 (all_rows_of_pairs c.args.tickets c.args.papers c.args.reviewers c.args.pairs.now all c.loop-e.e (omega arith)) in absurd (cc),
)
