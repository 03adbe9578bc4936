use Rattle.std.proofs.Common.{◌≤◌, take}
use Rattle.text_lines.specs.Texts.{lines_of}
use Rattle.publication.specs.RulesText.{pair_line}
use Rattle.publication.proofs.WriteLaws.{Wrote}
use Rattle.publication.proofs.rules_writing.write_pair_lines.Given as goal

abbrev pub invariant-loop-pair : goal.invariant-loop-pair
invariant-loop-pair g l = record {
  front : Wrote (g.K.Sink.taken l.fn.sink) (g.K.Sink.taken l.sink) (lines_of pair_line (take l.pair-index l.pairs));
  later : g.K.Sink.faults l.fn.sink ≤ g.K.Sink.faults l.sink;
}
