-- A phase of the coarse solution: what is kept, so that each step is safe.
use Rattle.std.specs.Prelude.{ℕ, ◌≡◌, ◌+◌, ◌<◌, length, All}
use Rattle.bounded_network.specs.Network.{NetworkValue, potential_at}
use Rattle.residual_arcs.specs.declared.links.Links.{Links}
use Rattle.flow_solver.specs.declared.coarse.Coarse.{Coarse}
use Rattle.flow_solver.specs.declared.global_update.Ranks.{Ranks}
use Rattle.flow_solver.specs.State.{IsWithin, most_cost}

-- what is left and a twin for each link, an excess, a small potential and a next link for each node, and nodes that are active
pub record IsCoarse (net : NetworkValue) (links : Links) (coarse : Coarse) : Type 0 where
  pub left_long : length coarse.left.items ≡ length links.all.items
  pub twins_long : length coarse.twins.items ≡ length links.all.items
  pub excess_long : length coarse.excess.items ≡ net.nodes
  pub potentials_long : length coarse.potentials.items ≡ net.nodes
  pub small : (v : ℕ) → IsWithin most_cost (potential_at coarse.potentials.items v)
  pub next_long : length coarse.next.items ≡ net.nodes + 1
  pub active : All (λ v. v < net.nodes) coarse.active.items

-- a rank for each node, a bucket for each rank, and nodes that wait
pub record AreRanks (net : NetworkValue) (ranks : Ranks) : Type 0 where
  pub each_long : length ranks.each.items ≡ net.nodes
  pub first_long : length ranks.first.items ≡ 4096
  pub waiting : All (λ w. w.node < net.nodes) ranks.waiting.items
