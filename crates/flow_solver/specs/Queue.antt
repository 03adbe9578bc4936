-- Nodes that wait at a distance.
use Rattle.std.specs.Prelude.{ℕ, List, Contains}
use Rattle.std.specs.Ordering.{ordering_then, nat_cmp}
use Rattle.std.specs.declared.cmp.Ordering.{Ordering}
use Rattle.std.specs.declared.cmp.Reverse.{Reverse}

-- the order of the queue: the nearest is the greatest, and of nodes at one distance the last one
abbrev pub nearer : (Reverse ℕ × ℕ) → (Reverse ℕ × ℕ) → Ordering
nearer x y = ordering_then (nat_cmp y.0.0 x.0.0) (nat_cmp x.1 y.1)

-- the node waits at the distance
abbrev pub Waits : List (Reverse ℕ × ℕ) → ℕ → ℕ → Type 0
Waits items distance node = Contains items (record { 0 = distance }, node)
