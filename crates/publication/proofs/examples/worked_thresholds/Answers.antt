use Rattle.std.proofs.Common.{refl}
use Rattle.match_rules.specs.Groups.{groups, group_of}
use Rattle.publication.proofs.examples.worked_thresholds.Goals as goal

pub returns-clause-right : goal.returns-clause-right
unfolding groups group_of
returns-clause-right c = refl

pub returns-clause-low : goal.returns-clause-low
unfolding groups group_of
returns-clause-low c = refl
