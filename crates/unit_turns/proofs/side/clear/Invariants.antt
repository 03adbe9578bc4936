use Rattle.std.proofs.Common.{◌≡◌, ℕ, ◌<◌, length}
use Rattle.unit_turns.specs.Side.{place_of}
use Rattle.unit_turns.proofs.side.clear.Given as goal

-- the nodes so far have no place, and the others have the one that they had
abbrev pub invariant-loop-place : goal.invariant-loop-place
invariant-loop-place l = record {
  reaches : l.side.reaches.items ≡ l.initial.side.reaches.items;
  long : length l.side.places.items ≡ length l.initial.side.places.items;
  lower : (v : ℕ) → 0 < place_of l.side v → (place_of l.side v ≡ place_of l.initial.side v) × (l.place < place_of l.side v);
}
