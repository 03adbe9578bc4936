use Rattle.std.proofs.Common.{[], false}
use Rattle.http_stream.proofs.HeadEnds.{head_end_long}
use Rattle.http_stream.proofs.ReadingLaws.{added_none, shed_came, shed_nil}
use Rattle.http_stream.proofs.intake.Intake.step_head.Goals as goal

pub returns-in-Ended-clause-came : goal.returns-in-Ended-clause-came
returns-in-Ended-clause-came g c = ([], added_none, shed_nil _ _ _ _ c.drop_blank.ensures.shed, (c.drop_blank.ensures.none, c.in-Ended.ensures, (head_end_long _ _ c.in-Ended.ensures).1))

pub returns-in-Refused-clause-came : goal.returns-in-Refused-clause-came
returns-in-Refused-clause-came g c =
    ([], added_none, shed_nil _ _ _ _ c.drop_blank.ensures.shed, (false, λ e. absurd (cc), c.in-Refused.ensures false))

pub returns-in-Wants-clause-came : goal.returns-in-Wants-clause-came
returns-in-Wants-clause-came g c =
    let came = c.fill_head.ensures.came in
    (came.0, came.1, shed_came _ _ _ _ came.0 _ _ c.drop_blank.ensures.shed c.fill_head.ensures.same came.2, came.3)
