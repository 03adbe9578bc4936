use Rattle.std.proofs.Common.{ap, sym, ◌∙◌, Some}
use Rattle.reports.proofs.ReviewerNames.{one_name_more, no_name_more, all_named}
use Rattle.reports.proofs.names.all_names.Goals as goal
use Rattle.reports.proofs.names.all_names.Goals.{in-Some+in_ok-push, in_default}

pub loop-reviewer-preserved : goal.loop-reviewer-preserved
loop-reviewer-preserved c =
    elim c.match-reviewer.branch [
      | in-Some+in_ok-push w ↦
          one_name_more _ _ w.text.result _ _ _ (ap (λ v. v.items) w.names-is ∙ w.in_ok-push.ensures.items) c.loop-reviewer-test.true c.reviewer-item.is
          (w.in-Some.is ∙ ap (λ x. Some x) (sym w.text.ensures.same)) c.loop-reviewer.invariant
      | in_default w ↦
          no_name_more c.loop-reviewer.names.items _ _ _ _ (ap (λ v. v.items) w.names-is) c.loop-reviewer-test.true c.reviewer-item.is w.in_default.is c.loop-reviewer.invariant
    ]

pub returns : goal.returns
returns c = all_named _ _ c.loop-reviewer.reviewer-index c.loop-reviewer-test.false c.loop-reviewer.invariant
