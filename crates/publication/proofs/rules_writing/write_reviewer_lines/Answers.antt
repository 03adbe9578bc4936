use Rattle.std.proofs.Common.{arith, rules}
use Rattle.publication.specs.RulesText.{reviewer_line}
use Rattle.publication.proofs.WriteLaws.{wrote_none, wrote_more, wrote_front}
use Rattle.publication.proofs.rules_writing.write_reviewer_lines.Goals as goal

pub loop-reviewer-init : goal.loop-reviewer-init
loop-reviewer-init g c = record { front = wrote_none reviewer_line c.args.reviewers.now (g.K.Sink.taken c.args.sink.now); later = omega arith }

pub returns-in_err-write_all-clause-taken : goal.returns-in_err-write_all-clause-taken
returns-in_err-write_all-clause-taken g c =
    let adds = rw (c.as_slice.ensures, c.reviewer_line.ensures) at c.in_err-write_all.ensures.taken in
    wrote_front reviewer_line c.args.reviewers.now c.loop-reviewer.reviewer-index c.reviewer-item.result c.reviewer-item.result _ _ _ _ _ c.loop-reviewer-test.true c.reviewer-item.is
    c.loop-reviewer.invariant.front adds c.from_residual.ensures.0

pub loop-reviewer-preserved : goal.loop-reviewer-preserved
loop-reviewer-preserved g c =
    let adds = rw (c.as_slice.ensures, c.reviewer_line.ensures) at c.in_ok-write_all.ensures.taken in
    record {
      front = wrote_more reviewer_line c.args.reviewers.now c.loop-reviewer.reviewer-index c.reviewer-item.result c.reviewer-item.result _ _ _ _ c.loop-reviewer-test.true c.reviewer-item.is
          c.loop-reviewer.invariant.front adds;
      later = search rules;
    }
