use Rattle.std.proofs.Common.{◌≤◌}
use Rattle.std.specs.Prelude.{slice_index}
use Rattle.text_lines.specs.Texts.{line_of}
use Rattle.reports.specs.Lists.{texts_below}
use Rattle.reports.specs.Tables.{pair_line}
use Rattle.reports.proofs.TextLaws.{Wrote}
use Rattle.reports.proofs.assignment.write_pair_lines.Given as goal

abbrev pub invariant-loop-place : goal.invariant-loop-place
invariant-loop-place g l = record {
  front : Wrote (g.K.Sink.taken l.fn.sink) (g.K.Sink.taken l.sink) (texts_below l.place-index (λ i. line_of (pair_line l.rules (slice_index l.places i))));
  later : g.K.Sink.faults l.fn.sink ≤ g.K.Sink.faults l.sink;
}
