use Rattle.std.proofs.Common.{◌≡◌, ℕ, ◌+◌, ◌-◌, ◌≤◌, List, ◌++◌, length}
use Rattle.http_stream.specs.Intakes.{Added}
use Rattle.http_stream.proofs.intake.Intake.await_body.Given as goal

abbrev pub invariant-loop-self : goal.invariant-loop-self
invariant-loop-self g l = record {
  came : (came : List ℕ) × Added (g.S.Source.given l.fn.source) (g.S.Source.given l.source) came × (l.self.bytes.items ≡ l.fn.self.bytes.items ++ came);
  room : l.self.room ≡ l.fn.self.room;
  within : l.headed.end ≤ length l.self.bytes.items;
  later : g.S.Source.faults l.fn.source ≤ g.S.Source.faults l.source;
}

abbrev pub decreases-loop-self : goal.decreases-loop-self
decreases-loop-self g l = l.headed.end + l.headed.count - length l.self.bytes.items
