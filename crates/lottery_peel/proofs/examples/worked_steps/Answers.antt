use Rattle.std.proofs.Common.{refl}
use Rattle.match_rules.specs.Groups.{groups, group_of}
use Rattle.lottery_peel.proofs.examples.worked_steps.Goals as goal

pub returns-clause-four_pairs : goal.returns-clause-four_pairs
unfolding groups group_of
returns-clause-four_pairs c = refl

pub returns-clause-four_of_eight : goal.returns-clause-four_of_eight
unfolding groups group_of
returns-clause-four_of_eight c = refl

pub returns-clause-three_reviewers : goal.returns-clause-three_reviewers
unfolding groups group_of
returns-clause-three_reviewers c = refl

pub returns-clause-houses : goal.returns-clause-houses
unfolding groups group_of
returns-clause-houses c = refl

pub returns-clause-all_whole : goal.returns-clause-all_whole
unfolding groups group_of
returns-clause-all_whole c = refl
