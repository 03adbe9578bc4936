-- Links that are safe to follow.
use Rattle.std.specs.Prelude.{ℕ, ◌<◌, List, length, ℤ, ◌+ℤ◌, ◌-ℤ◌}
use Rattle.bounded_network.specs.Network.{NetworkValue, potential_at}
use Rattle.residual_arcs.specs.declared.links.Link.{Link}
use Rattle.flow_solver.specs.State.{IsWithin, most_cost}

-- it ends at a node, its step is over an arc, and its cost is small
pub record IsLinkWithin (net : NetworkValue) (link : Link) : Type 0 where
  pub to : link.to < net.nodes
  pub arc : link.step.arc < length net.arcs
  pub cost : IsWithin most_cost link.cost

-- the reduced cost of a link from its node
abbrev pub reduced_over : List ℤ → ℕ → Link → ℤ
reduced_over potentials node link = (link.cost +ℤ potential_at potentials node) -ℤ potential_at potentials link.to
