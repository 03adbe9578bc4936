use Rattle.std.proofs.Common.{slice_index}
use Rattle.match_rules.specs.Groups.{group_count, is_in_group}
use Rattle.bounded_network.proofs.Tallies.{IsTally}
use Rattle.bounded_network.proofs.totals.of_groups.Given as goal

-- the sums of the pairs so far
abbrev pub invariant-loop-e : goal.invariant-loop-e
invariant-loop-e l = IsTally (group_count l.rules) (is_in_group l.rules) (slice_index l.shares) l.e l.totals.items
