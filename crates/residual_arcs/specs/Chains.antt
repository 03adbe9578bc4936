-- The arcs at each node, as chains from the last arc to the first.
use Rattle.std.specs.Prelude.{ℕ, ◌≡◌, ◌-◌, ◌<◌, ◌≤◌, ◌⊎◌, ◌≢◌, length, slice_index}
use Rattle.bounded_network.specs.Network.{NetworkValue, arc_at}
use Rattle.residual_arcs.specs.declared.chains.Chains.{Chains}

-- of the arcs below the limit, the last at the node is the one before the bound; a bound of 0 says that there is none
pub record IsBound (net : NetworkValue) (v limit bound : ℕ) : Type 0 where
  pub below : bound ≤ limit
  pub none_between : (a : ℕ) → bound ≤ a → a < limit → ((arc_at net a).tail ≢ v) × ((arc_at net a).head ≢ v)
  pub at : 0 < bound → ((arc_at net (bound - 1)).tail ≡ v) ⊎ ((arc_at net (bound - 1)).head ≡ v)

-- the bounds at each node, and before each arc at its two ends
pub record AreChains (net : NetworkValue) (chains : Chains) : Type 0 where
  pub last_long : length chains.last.items ≡ net.nodes
  pub tails_long : length chains.before_tail.items ≡ length net.arcs
  pub heads_long : length chains.before_head.items ≡ length net.arcs
  pub last : (v : ℕ) → v < net.nodes → IsBound net v (length net.arcs) (slice_index chains.last.items v)
  pub before_tail : (a : ℕ) → a < length net.arcs → IsBound net (arc_at net a).tail a (slice_index chains.before_tail.items a)
  pub before_head : (a : ℕ) → a < length net.arcs → IsBound net (arc_at net a).head a (slice_index chains.before_head.items a)
