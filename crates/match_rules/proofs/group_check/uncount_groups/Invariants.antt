use Rattle.std.proofs.Common.{take, ◌-◌}
use Rattle.match_rules.specs.Groups.{group_count}
use Rattle.match_rules.specs.Assignments.{member_count}
use Rattle.match_rules.specs.Sound.{AreCounts}
use Rattle.match_rules.proofs.group_check.uncount_groups.Given as goal

abbrev pub invariant-loop-e : goal.invariant-loop-e
invariant-loop-e l = AreCounts l.counts (group_count l.rules) (λ g. member_count l.rules l.places g - member_count l.rules (take l.e-index l.places) g)
