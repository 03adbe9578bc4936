use Rattle.std.proofs.Common.{◌≡◌}
use Rattle.bounded_network.specs.Back.{places_where, is_apart}
use Rattle.bounded_network.specs.Compile.{reviewer_node}
use Rattle.bounded_network.proofs.back.reviewers_across.Given as goal

-- the places so far
abbrev pub invariant-loop-r : goal.invariant-loop-r
invariant-loop-r l = l.places.items ≡ places_where l.r (λ r. is_apart l.rules l.marks (reviewer_node l.rules r))
