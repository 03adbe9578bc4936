-- Balanced amounts between multiples of the bounds of a network.
use Rattle.std.specs.Prelude.{◌≡◌, ℕ, ◌*◌, ◌<◌, ◌≤◌, List, length, slice_index}
use Rattle.bounded_network.specs.Network.{NetworkValue, arc_at, entering, leaving}

-- an amount for each arc, from the floor to the room, each times the scale, so that at each node as much enters as leaves
pub record IsScaled (net : NetworkValue) (scale : ℕ) (flow : List ℕ) : Type 0 where
  pub floors : (a : ℕ) → a < length net.arcs → scale * (arc_at net a).floor ≤ slice_index flow a
  pub rooms : (a : ℕ) → a < length net.arcs → slice_index flow a ≤ scale * (arc_at net a).room
  pub balanced : (v : ℕ) → v < net.nodes → entering net flow v ≡ leaving net flow v
