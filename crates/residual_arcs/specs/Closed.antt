-- Marked nodes that no path leaves.
use Rattle.std.specs.Prelude.{ℕ, ◌≡◌, ◌<◌, Bool, true, List, length, slice_index}
use Rattle.bounded_network.specs.Network.{NetworkValue, arc_at, is_marked}
use Rattle.residual_arcs.specs.Step.{start_of, end_of, left_on}

-- a step that starts at a marked node, and on which something is left, ends at one
abbrev pub AreClosed : NetworkValue → List ℕ → List Bool → Type 0
AreClosed net flow marks =
    (a : ℕ) (forward : Bool) → a < length net.arcs → is_marked marks (start_of (arc_at net a) forward) ≡ true
    → 0 < left_on (arc_at net a) (slice_index flow a) forward → is_marked marks (end_of (arc_at net a) forward) ≡ true
