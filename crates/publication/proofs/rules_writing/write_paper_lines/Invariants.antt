use Rattle.std.proofs.Common.{◌≤◌, take}
use Rattle.text_lines.specs.Texts.{lines_of}
use Rattle.publication.specs.RulesText.{paper_line}
use Rattle.publication.proofs.WriteLaws.{Wrote}
use Rattle.publication.proofs.rules_writing.write_paper_lines.Given as goal

abbrev pub invariant-loop-paper : goal.invariant-loop-paper
invariant-loop-paper g l = record {
  front : Wrote (g.K.Sink.taken l.fn.sink) (g.K.Sink.taken l.sink) (lines_of paper_line (take l.paper-index l.papers));
  later : g.K.Sink.faults l.fn.sink ≤ g.K.Sink.faults l.sink;
}
