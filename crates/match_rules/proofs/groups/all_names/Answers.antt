use Rattle.std.proofs.Common.{ap, sym, ◌∙◌, Some, arith}
use Rattle.match_rules.proofs.Names.{few_more, named_more, named_same}
use Rattle.match_rules.proofs.groups.all_names.Goals as goal
use Rattle.match_rules.proofs.groups.all_names.Goals.{in-Some+in_ok-push, in_default}

pub loop-reviewer-preserved : goal.loop-reviewer-preserved
loop-reviewer-preserved c =
    elim c.match-reviewer.branch [
      | in-Some+in_ok-push w ↦
          let e = ap (λ v. v.items) w.names-is ∙ w.in_ok-push.ensures.items in
          record {
            few = few_more _ _ _ _ e c.loop-reviewer.invariant.few;
            named = named_more _ _ w.text.result _ _ _ e c.loop-reviewer-test.true c.reviewer-item.is (w.in-Some.is ∙ ap (λ x. Some x) (sym w.text.ensures.same)) c.loop-reviewer.invariant.named;
          }
      | in_default w ↦
          let e = ap (λ v. v.items) w.names-is in
          record {
            few = rw e (omega arith);
            named = rw e (named_same c.loop-reviewer.names.items _ _ _ c.loop-reviewer-test.true c.reviewer-item.is w.in_default.is c.loop-reviewer.invariant.named);
          }
    ]

pub returns-clause-named : goal.returns-clause-named
returns-clause-named c = λ r name h is. c.loop-reviewer.invariant.named r name (omega arith) is
