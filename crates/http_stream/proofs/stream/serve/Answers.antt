use Rattle.std.proofs.Common.{refl, arith, ap}
use Rattle.std.specs.Prelude.{Some}
use Rattle.http_stream.specs.declared.intake.TheConstants.{MOST_STREAM_BYTES}
use Rattle.http_stream.proofs.ReadingLaws.{rose_before}
use Rattle.http_stream.proofs.TurnLaws.{served_end, served_none, served_on}
use Rattle.http_stream.proofs.stream.serve.Goals as goal

pub loop-end-init : goal.loop-end-init
loop-end-init g c = record {
  ready = c.requires.ready;
  served = served_none g.H.Handler.does _ _ _ _ _ _ c.new-intake.ensures.room c.new-intake.ensures.bytes;
  read = omega arith;
  write = omega arith;
}

pub loop-end-preserved : goal.loop-end-preserved
loop-end-preserved g c =
    let came = c.in-None.ensures.came in
    record {
      ready = c.turn.ensures.ready;
      served = served_on g.H.Handler.does _ _ _ _ _ _ _ _ _ (g.S.Source.left c.turn.new.source) MOST_STREAM_BYTES c.loop-end.intake.room c.loop-end.intake.bytes.items came.0 came.1 c.turn.new.intake.room c.turn.new.intake.bytes.items c.loop-end.invariant.served came.2 came.3 came.4;
      read = omega (arith, c.loop-end.invariant.read, c.in-None.ensures.read.later);
      write = omega (arith, c.loop-end.invariant.write, c.in-None.ensures.write.later);
    }

pub returns-in-Some-clause-stream : goal.returns-in-Some-clause-stream
returns-in-Some-clause-stream g c =
    let came = c.in-Some.ensures.came in
    served_end g.H.Handler.does _ _ _ _ _ _ _ _ _ (g.S.Source.left c.turn.new.source) MOST_STREAM_BYTES c.loop-end.intake.room c.loop-end.intake.bytes.items came.0 came.1 c.turn.new.intake.room c.turn.new.intake.bytes.items c.in-Some.end c.loop-end.invariant.served came.2 came.3 came.4

pub returns-in-Some-clause-read_fault : goal.returns-in-Some-clause-read_fault
returns-in-Some-clause-read_fault g c = λ e. rose_before _ _ _ c.loop-end.invariant.read (c.in-Some.ensures.read.failed (ap Some e))

pub returns-in-Some-clause-write_fault : goal.returns-in-Some-clause-write_fault
returns-in-Some-clause-write_fault g c = λ e. rose_before _ _ _ c.loop-end.invariant.write (c.in-Some.ensures.write.failed (ap Some e))
