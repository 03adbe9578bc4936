-- Links are safe to follow.
use Rattle.std.proofs.Common.{◌≡◌, ℕ, List}
use Rattle.std.specs.Prelude.{ℤ, ◌+ℤ◌, ◌-ℤ◌}
use Rattle.bounded_network.specs.Network.{NetworkValue, IsNetwork, arc_at, potential_at}
use Rattle.residual_arcs.specs.declared.links.Link.{Link}
use Rattle.residual_arcs.specs.Links.{IsLink, start_at}
use Rattle.residual_arcs.proofs.Steps.{end_in}
use Rattle.flow_solver.specs.Links.{IsLinkWithin}
use Rattle.flow_solver.specs.Step.{step_reduced}
use Rattle.flow_solver.proofs.Searches.{step_cost_within}
use Rattle.flow_solver.proofs.Bounds.{step_reduced-parts}

pub within_link : (net : NetworkValue) (link : Link) → IsNetwork net → IsLink net link → IsLinkWithin net link
within_link net link good is_link = record {
  to = rw is_link.ends (end_in net.nodes (arc_at net link.step.arc) link.step.forward (good.each link.step.arc is_link.arc));
  arc = is_link.arc;
  cost = rw is_link.cost (step_cost_within net.nodes (arc_at net link.step.arc) link.step.forward (good.each link.step.arc is_link.arc));
}

-- the reduced cost of a link's step from its parts
pub link_reduced : (net : NetworkValue) (link : Link) (potentials : List ℤ) (node : ℕ) (from to : ℤ) → IsLink net link → start_at net link ≡ node → from ≡ potential_at potentials node → to ≡ potential_at potentials link.to
    → (link.cost +ℤ from) -ℤ to ≡ step_reduced (arc_at net link.step.arc) link.step.forward potentials
link_reduced net link potentials node from to is_link starts from_is to_is =
    step_reduced-parts (arc_at net link.step.arc) link.step.forward potentials node link.cost from to starts is_link.cost from_is (rw is_link.ends at to_is)
