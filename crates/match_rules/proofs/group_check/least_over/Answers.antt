use Rattle.std.proofs.Common.{arith}
use Rattle.match_rules.proofs.GroupCounts.{least_is}
use Rattle.match_rules.proofs.group_check.least_over.Goals as goal

pub returns : goal.returns
returns c =
    least_is c.args.rules.now c.args.places.now c.args.counts.now c.loop-e.first c.requires.counts c.loop-e.invariant.within c.loop-e.invariant.over
    (λ i g h. c.loop-e.invariant.least i g (omega arith))
