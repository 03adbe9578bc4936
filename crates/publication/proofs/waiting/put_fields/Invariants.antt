use Rattle.std.proofs.Common.{◌≤◌, take}
use Rattle.std.specs.List.{flat_map}
use Rattle.publication.specs.Waiting.{next_field}
use Rattle.publication.proofs.WaitingLaws.{Put}
use Rattle.publication.proofs.waiting.put_fields.Given as goal

abbrev pub invariant-loop-number : goal.invariant-loop-number
invariant-loop-number g l = record {
  front : Put (g.K.Sink.taken l.fn.sink) l.fn.waiting (g.K.Sink.taken l.sink) l.waiting (flat_map next_field (take l.number-index l.numbers));
  later : g.K.Sink.faults l.fn.sink ≤ g.K.Sink.faults l.sink;
}
