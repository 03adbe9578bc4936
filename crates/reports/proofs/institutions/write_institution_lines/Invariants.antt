use Rattle.std.proofs.Common.{◌≤◌, []}
use Rattle.std.specs.Prelude.{slice_index, slice_index_or}
use Rattle.match_rules.specs.GroupTable.{texts}
use Rattle.reports.proofs.TextLaws.{Wrote}
use Rattle.text_lines.specs.Texts.{line_of}
use Rattle.reports.specs.Institutions.{institution_line}
use Rattle.reports.specs.Lists.{texts_below}
use Rattle.reports.proofs.institutions.write_institution_lines.Given as goal

abbrev pub invariant-loop-i : goal.invariant-loop-i
invariant-loop-i g l = record {
  front : Wrote (g.K.Sink.taken l.fn.sink) (g.K.Sink.taken l.sink) (texts_below l.i (λ i. line_of (institution_line (slice_index_or (texts l.names) i []) (slice_index l.sums i))));
  later : g.K.Sink.faults l.fn.sink ≤ g.K.Sink.faults l.sink;
}
