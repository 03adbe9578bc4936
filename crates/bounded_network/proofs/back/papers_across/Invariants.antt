use Rattle.std.proofs.Common.{◌≡◌}
use Rattle.bounded_network.specs.Back.{places_where, is_apart}
use Rattle.bounded_network.proofs.back.papers_across.Given as goal

-- the places so far
abbrev pub invariant-loop-p : goal.invariant-loop-p
invariant-loop-p l = l.places.items ≡ places_where l.p (is_apart l.rules l.marks)
