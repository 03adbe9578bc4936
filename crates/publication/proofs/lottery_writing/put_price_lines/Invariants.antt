use Rattle.std.proofs.Common.{◌≤◌, take}
use Rattle.std.specs.List.{flat_map}
use Rattle.std.specs.Fmt.{signed_decimal}
use Rattle.publication.proofs.WaitingLaws.{Put, text_line}
use Rattle.publication.proofs.lottery_writing.put_price_lines.Given as goal

abbrev pub invariant-loop-price : goal.invariant-loop-price
invariant-loop-price g l = record {
  front : Put (g.K.Sink.taken l.fn.sink) l.fn.waiting (g.K.Sink.taken l.sink) l.waiting (flat_map (text_line signed_decimal) (take l.price-index l.prices));
  later : g.K.Sink.faults l.fn.sink ≤ g.K.Sink.faults l.sink;
}
