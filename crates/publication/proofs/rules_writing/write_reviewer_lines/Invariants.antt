use Rattle.std.proofs.Common.{◌≤◌, take}
use Rattle.text_lines.specs.Texts.{lines_of}
use Rattle.publication.specs.RulesText.{reviewer_line}
use Rattle.publication.proofs.WriteLaws.{Wrote}
use Rattle.publication.proofs.rules_writing.write_reviewer_lines.Given as goal

abbrev pub invariant-loop-reviewer : goal.invariant-loop-reviewer
invariant-loop-reviewer g l = record {
  front : Wrote (g.K.Sink.taken l.fn.sink) (g.K.Sink.taken l.sink) (lines_of reviewer_line (take l.reviewer-index l.reviewers));
  later : g.K.Sink.faults l.fn.sink ≤ g.K.Sink.faults l.sink;
}
