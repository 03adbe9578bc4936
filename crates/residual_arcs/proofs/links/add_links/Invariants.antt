use Rattle.std.proofs.Common.{◌≡◌, ◌-◌, ◌<◌, ◌≤◌, ◌⊎◌, length}
use Rattle.bounded_network.specs.Network.{arc_at}
use Rattle.residual_arcs.specs.Adding.{AddsFrom}
use Rattle.residual_arcs.proofs.links.add_links.Given as goal

-- the steps over the arcs from the bound on are added
abbrev pub invariant-loop-bound : goal.invariant-loop-bound
invariant-loop-bound l = record {
  adds : AddsFrom l.net l.node l.bound l.initial.all.items l.all.items;
  below : l.bound ≤ length l.net.arcs;
  at : 0 < l.bound → ((arc_at l.net (l.bound - 1)).tail ≡ l.node) ⊎ ((arc_at l.net (l.bound - 1)).head ≡ l.node);
}

abbrev pub decreases-loop-bound : goal.decreases-loop-bound
decreases-loop-bound l = l.bound
