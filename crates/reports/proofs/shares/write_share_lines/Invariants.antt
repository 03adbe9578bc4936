use Rattle.std.proofs.Common.{◌≤◌}
use Rattle.reports.proofs.TextLaws.{Wrote}
use Rattle.reports.specs.Lists.{texts_below}
use Rattle.reports.specs.Tables.{share_text}
use Rattle.reports.proofs.shares.write_share_lines.Given as goal

abbrev pub invariant-loop-pair : goal.invariant-loop-pair
invariant-loop-pair g l = record {
  front : Wrote (g.K.Sink.taken l.fn.sink) (g.K.Sink.taken l.sink) (texts_below l.pair (share_text l.rules l.shares));
  later : g.K.Sink.faults l.fn.sink ≤ g.K.Sink.faults l.sink;
}
