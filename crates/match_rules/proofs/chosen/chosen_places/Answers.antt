use Rattle.std.proofs.Common.{sym, subst, ◌∙◌}
use Rattle.match_rules.specs.Answers.{Rounded}
use Rattle.match_rules.specs.Assignments.{Meets}
use Rattle.match_rules.specs.Pieces.{DoAscend}
use Rattle.match_rules.proofs.ChosenLaws.{chosen_places-ascends, chosen-meets, chosen-rounded}
use Rattle.match_rules.proofs.chosen.chosen_places.Goals as goal

pub returns-clause-ascending : goal.returns-clause-ascending
returns-clause-ascending c =
    subst DoAscend (sym (c.from_vec.ensures ∙ c.in_ok-places.ensures)) (chosen_places-ascends c.args.counts.now)

pub returns-clause-meets : goal.returns-clause-meets
returns-clause-meets c rules meet =
    subst (Meets rules) (sym (c.from_vec.ensures ∙ c.in_ok-places.ensures)) (chosen-meets rules c.args.counts.now meet)

pub returns-clause-rounded : goal.returns-clause-rounded
returns-clause-rounded c rules shares round =
    subst (Rounded rules shares) (sym (c.from_vec.ensures ∙ c.in_ok-places.ensures)) (chosen-rounded rules shares c.args.counts.now round)
