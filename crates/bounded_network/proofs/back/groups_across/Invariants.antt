use Rattle.std.proofs.Common.{◌≡◌}
use Rattle.bounded_network.specs.Back.{places_where, is_apart}
use Rattle.bounded_network.specs.Compile.{group_node}
use Rattle.bounded_network.proofs.back.groups_across.Given as goal

-- the places so far
abbrev pub invariant-loop-g : goal.invariant-loop-g
invariant-loop-g l = l.places.items ≡ places_where l.g (λ g. is_apart l.rules l.marks (group_node l.rules g))
