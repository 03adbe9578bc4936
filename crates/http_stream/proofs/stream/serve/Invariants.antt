use Rattle.std.proofs.Common.{◌≤◌}
use Rattle.http_stream.specs.declared.intake.TheConstants.{MOST_STREAM_BYTES}
use Rattle.http_stream.proofs.TurnLaws.{Served}
use Rattle.http_stream.proofs.stream.serve.Given as goal

abbrev pub invariant-loop-end : goal.invariant-loop-end
invariant-loop-end g l = record {
  ready : g.H.Handler.ready l.handler;
  served : Served g.H.Handler.does l.fn.handler l.handler (g.S.Source.given l.fn.source) (g.S.Source.given l.source) (g.K.Sink.taken l.fn.sink) (g.K.Sink.taken l.sink)
      MOST_STREAM_BYTES l.intake.room l.intake.bytes.items;
  read : g.S.Source.faults l.fn.source ≤ g.S.Source.faults l.source;
  write : g.K.Sink.faults l.fn.sink ≤ g.K.Sink.faults l.sink;
}

abbrev pub decreases-loop-end : goal.decreases-loop-end
decreases-loop-end g l = l.intake.room
