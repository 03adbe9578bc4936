-- The costs of a network: the greatest magnitude, and the unit that divides them all.
use Rattle.std.specs.Prelude.{ℕ, ◌≡◌, ◌<◌, ◌≤◌, ◌⊎◌, length, unsigned_abs}
use Prim.Native.Nat.{◌∣◌}
use Rattle.bounded_network.specs.Network.{NetworkValue, arc_at}

-- the magnitude of the cost of the arc at a place
abbrev pub magnitude_at : NetworkValue → ℕ → ℕ
magnitude_at net a = unsigned_abs (arc_at net a).cost

-- no cost is of a greater magnitude, and one has this one, unless it is 0
pub record IsGreatestCost (net : NetworkValue) (greatest : ℕ) : Type 0 where
  pub most : (a : ℕ) → a < length net.arcs → magnitude_at net a ≤ greatest
  pub reached : (greatest ≡ 0) ⊎ ((a : ℕ) × (a < length net.arcs) × (greatest ≡ magnitude_at net a))

-- it divides the magnitude of each cost, and whatever divides them all divides it
pub record IsUnit (net : NetworkValue) (unit : ℕ) : Type 0 where
  pub divides : (a : ℕ) → a < length net.arcs → unit ∣ magnitude_at net a
  pub greatest : (d : ℕ) → ((a : ℕ) → a < length net.arcs → d ∣ magnitude_at net a) → d ∣ unit
