use Rattle.std.proofs.Common.{◌==◌, length, slice_index}
use Rattle.match_rules.specs.Rules.{pair_at}
use Rattle.bounded_network.proofs.Tallies.{IsTally}
use Rattle.bounded_network.proofs.totals.of_reviewers.Given as goal

-- the sums of the pairs so far
abbrev pub invariant-loop-e : goal.invariant-loop-e
invariant-loop-e l = IsTally (length l.rules.reviewers) (λ p e. (pair_at l.rules e).reviewer == p) (slice_index l.shares) l.e l.totals.items
