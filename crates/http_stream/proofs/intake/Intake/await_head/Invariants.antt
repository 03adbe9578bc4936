use Rattle.std.proofs.Common.{ℕ, ◌-◌, ◌≤◌, List, ◌++◌, length}
use Rattle.http_stream.specs.Intakes.{Added, Shed}
use Rattle.http_stream.proofs.intake.Intake.await_head.Given as goal

abbrev pub invariant-loop-end : goal.invariant-loop-end
invariant-loop-end g l = record {
  came : (came : List ℕ) × Added (g.S.Source.given l.fn.source) (g.S.Source.given l.source) came
      × Shed l.fn.self.room (l.fn.self.bytes.items ++ came) l.self.room l.self.bytes.items;
  later : g.S.Source.faults l.fn.source ≤ g.S.Source.faults l.source;
}

abbrev pub decreases-loop-end : goal.decreases-loop-end
decreases-loop-end g l = l.self.room - length l.self.bytes.items
