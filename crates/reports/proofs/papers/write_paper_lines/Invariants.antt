use Rattle.std.proofs.Common.{◌≤◌}
use Rattle.std.specs.Prelude.{slice_index_or, pos}
use Rattle.match_rules.specs.Rules.{paper_in}
use Rattle.reports.proofs.TextLaws.{Wrote}
use Rattle.text_lines.specs.Texts.{line_of}
use Rattle.reports.specs.Lists.{texts_below}
use Rattle.reports.specs.Tables.{paper_line}
use Rattle.reports.proofs.papers.write_paper_lines.Given as goal

abbrev pub invariant-loop-p : goal.invariant-loop-p
invariant-loop-p g l = record {
  front : Wrote (g.K.Sink.taken l.fn.sink) (g.K.Sink.taken l.sink) (texts_below l.p (λ p. line_of (paper_line (paper_in l.papers p) (slice_index_or l.scores p (pos 0)))));
  later : g.K.Sink.faults l.fn.sink ≤ g.K.Sink.faults l.sink;
}
