use Rattle.std.proofs.Common.{◌≤◌, take}
use Rattle.std.specs.List.{flat_map}
use Rattle.std.specs.Prelude.{decimal}
use Rattle.publication.proofs.WaitingLaws.{Put, text_line}
use Rattle.publication.proofs.lottery_writing.put_share_lines.Given as goal

abbrev pub invariant-loop-share : goal.invariant-loop-share
invariant-loop-share g l = record {
  front : Put (g.K.Sink.taken l.fn.sink) l.fn.waiting (g.K.Sink.taken l.sink) l.waiting (flat_map (text_line decimal) (take l.share-index l.shares));
  later : g.K.Sink.faults l.fn.sink ≤ g.K.Sink.faults l.sink;
}
