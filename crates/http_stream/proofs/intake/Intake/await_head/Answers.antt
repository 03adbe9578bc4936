use Rattle.std.proofs.Common.{[], ◌++◌, arith}
use Rattle.http_stream.proofs.ReadingLaws.{added_none, added_then, caused_before, shed_nil, shed_on}
use Rattle.http_stream.proofs.ShedLaws.{shed_none}
use Rattle.http_stream.proofs.intake.Intake.await_head.Goals as goal

pub loop-end-init : goal.loop-end-init
loop-end-init g c = record { came = ([], added_none, shed_nil _ _ _ _ (shed_none _ _)); later = omega arith }

pub loop-end-preserved : goal.loop-end-preserved
loop-end-preserved g c =
    let before = c.loop-end.invariant.came in
    let came = c.step_head.ensures.came in
    record {
      came = (before.0 ++ came.0, added_then _ _ _ _ _ before.1 came.1, shed_on _ _ before.0 _ _ came.0 _ _ before.2 came.2);
      later = omega (arith, c.loop-end.invariant.later, c.step_head.ensures.later);
    }

pub returns-in-Err-clause-fault : goal.returns-in-Err-clause-fault
returns-in-Err-clause-fault g c = caused_before _ _ _ _ c.loop-end.invariant.later c.in-Err.ensures.fault

pub returns-in-Ok-Some-clause-came : goal.returns-in-Ok-Some-clause-came
returns-in-Ok-Some-clause-came g c =
    let before = c.loop-end.invariant.came in
    let step = c.in-Ok-Some.ensures.came in
    (before.0 ++ step.0, added_then _ _ _ _ _ before.1 step.1, shed_on _ _ before.0 _ _ step.0 _ _ before.2 step.2, rw c.in-Ok-Some.field-0-is at step.3)

pub returns-in-Err-clause-came : goal.returns-in-Err-clause-came
returns-in-Err-clause-came g c =
    let before = c.loop-end.invariant.came in
    let step = c.in-Err.ensures.came in
    (before.0 ++ step.0, added_then _ _ _ _ _ before.1 step.1, shed_on _ _ before.0 _ _ step.0 _ _ before.2 step.2, step.3)
