use Rattle.std.proofs.Common.{◌-◌, ◌≤◌, length}
use Rattle.edge_io.proofs.Adding.{AddsFront}
use Rattle.edge_io.proofs.writing.write_all.Given as goal

abbrev pub invariant-loop-at : goal.invariant-loop-at
invariant-loop-at g l = record {
  front : AddsFront (g.K.Sink.taken l.fn.sink) (g.K.Sink.taken l.sink) l.piece l.at;
  within : l.at ≤ length l.piece;
  later : g.K.Sink.faults l.fn.sink ≤ g.K.Sink.faults l.sink;
}

abbrev pub decreases-loop-at : goal.decreases-loop-at
decreases-loop-at g l = length l.piece - l.at
