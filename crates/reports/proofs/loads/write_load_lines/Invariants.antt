use Rattle.std.proofs.Common.{◌≤◌}
use Rattle.std.specs.Prelude.{slice_index}
use Rattle.match_rules.specs.Rules.{reviewer_in}
use Rattle.reports.proofs.TextLaws.{Wrote}
use Rattle.text_lines.specs.Texts.{line_of}
use Rattle.reports.specs.Lists.{texts_below}
use Rattle.reports.specs.Tables.{load_line}
use Rattle.reports.proofs.loads.write_load_lines.Given as goal

abbrev pub invariant-loop-r : goal.invariant-loop-r
invariant-loop-r g l = record {
  front : Wrote (g.K.Sink.taken l.fn.sink) (g.K.Sink.taken l.sink) (texts_below l.r (λ r. line_of (load_line (reviewer_in l.reviewers r) (slice_index l.loads r))));
  later : g.K.Sink.faults l.fn.sink ≤ g.K.Sink.faults l.sink;
}
