-- The state of the solver: an amount for each arc, the excess of each node, and potentials.
use Rattle.std.specs.Prelude.{ℕ, ◌≡◌, ◌-◌, ◌*◌, ◌<◌, ◌≤◌, ◌==◌, List, length, slice_index, slice_index_or, ℤ, pos, ◌+ℤ◌, ◌-ℤ◌, ◌≤ℤ◌, ◌<ℤ◌}
use Rattle.match_rules.specs.Rules.{most_score}
use Rattle.match_rules.specs.Sums.{when}
use Rattle.bounded_network.specs.Network.{NetworkValue, AreOptimal, entering, leaving, arc_at, potential_at, reduced_cost}
use Rattle.bounded_network.specs.declared.network.Arc.{Arc}

-- of magnitude at most the bound
pub record IsWithin (bound : ℕ) (z : ℤ) : Type 0 where
  pub low : pos 0 ≤ℤ (z +ℤ pos bound)
  pub high : z ≤ℤ pos bound

-- the greatest magnitude of a cost: that of a score
abbrev pub most_cost : ℕ
most_cost = most_score

-- the excess of a node
abbrev pub excess_at : List ℤ → ℕ → ℤ
excess_at excess v = slice_index_or excess v (pos 0)

-- each potential is of magnitude at most the greatest cost times the nodes
abbrev pub AreBounded : NetworkValue → List ℤ → Type 0
AreBounded net potentials = (v : ℕ) → v < net.nodes → IsWithin (most_cost * net.nodes) (potential_at potentials v)

-- each amount is within its bounds, each excess is what enters less what leaves, and the potentials are optimal: no step that
-- can carry more has a negative reduced cost
pub record IsState (net : NetworkValue) (flow : List ℕ) (excess : List ℤ) (potentials : List ℤ) : Type 0 where
  pub flow_long : length flow ≡ length net.arcs
  pub excess_long : length excess ≡ net.nodes
  pub potentials_long : length potentials ≡ net.nodes
  pub floors : (a : ℕ) → a < length net.arcs → (arc_at net a).floor ≤ slice_index flow a
  pub rooms : (a : ℕ) → a < length net.arcs → slice_index flow a ≤ (arc_at net a).room
  pub exact : (v : ℕ) → v < net.nodes → excess_at excess v ≡ pos (entering net flow v) -ℤ pos (leaving net flow v)
  pub optimal : AreOptimal net flow potentials
  pub bounded : AreBounded net potentials

-- the nodes with a deficit have small potentials
abbrev pub AreCalm : NetworkValue → List ℤ → List ℤ → Type 0
AreCalm net excess potentials =
    (v : ℕ) → v < net.nodes → excess_at excess v <ℤ pos 0 → IsWithin most_cost (potential_at potentials v)

-- the amount went from one node to another
abbrev pub IsShifted : List ℤ → List ℤ → ℕ → ℕ → ℕ → Type 0
IsShifted old new from to amount =
    (v : ℕ) → excess_at new v ≡ (excess_at old v -ℤ pos (when (from == v) amount)) +ℤ pos (when (to == v) amount)

-- an amount within the arc's bounds that suits the reduced cost: the room where it is negative, the floor where it is positive
pub record Suits (arc : Arc) (reduced : ℤ) (amount : ℕ) : Type 0 where
  pub floor : arc.floor ≤ amount
  pub room : amount ≤ arc.room
  pub may_rise : amount < arc.room → pos 0 ≤ℤ reduced
  pub may_fall : arc.floor < amount → reduced ≤ℤ pos 0

-- an amount for each arc that suits it
pub record AllSuit (net : NetworkValue) (flow : List ℕ) (potentials : List ℤ) : Type 0 where
  pub long : length flow ≡ length net.arcs
  pub each : (a : ℕ) → a < length net.arcs → Suits (arc_at net a) (reduced_cost net potentials a) (slice_index flow a)

-- each excess is what enters less what leaves
pub record AreExcesses (net : NetworkValue) (flow : List ℕ) (excess : List ℤ) : Type 0 where
  pub long : length excess ≡ net.nodes
  pub each : (v : ℕ) → v < net.nodes → excess_at excess v ≡ pos (entering net flow v) -ℤ pos (leaving net flow v)

-- each potential is lower by what its node's distance is short of the depth
pub record AreUpdated (old new : List ℤ) (distances : List ℕ) (depth : ℕ) : Type 0 where
  pub long : length new ≡ length old
  pub each : (v : ℕ) → v < length old → potential_at new v ≡ potential_at old v -ℤ pos (depth - slice_index distances v)
