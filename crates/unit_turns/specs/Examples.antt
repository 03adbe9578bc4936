-- Worked examples: small networks that can be followed by hand.
use Rattle.std.specs.Prelude.{ℕ, true, false, List, [], ◌∷◌, pos}
use Rattle.bounded_network.specs.declared.network.Arc.{Arc}
use Rattle.bounded_network.specs.Network.{NetworkValue}
use Rattle.residual_arcs.specs.declared.step.Step.{Step}

-- an arc for at most the room
abbrev pub free_arc : ℕ → ℕ → ℕ → Arc
free_arc tail head room = record { tail = tail; head = head; floor = 0; room = room; cost = pos 0 }

-- three nodes: arcs from 0 to 1, from 2 to 1, from 2 to 0, each for one unit at most
abbrev pub triangle : NetworkValue
triangle = record { nodes = 3; arcs = free_arc 0 1 1 ∷ (free_arc 2 1 1 ∷ (free_arc 2 0 1 ∷ [])) }

-- two nodes, an arc from 0 to 1, and one back that is closed
abbrev pub one_way : NetworkValue
one_way = record { nodes = 2; arcs = free_arc 0 1 1 ∷ (free_arc 1 0 0 ∷ []) }

-- the way round the triangle: over the arc from 0 to 1, back over the one from 2 to 1, and over the one from 2 to 0
abbrev pub round : List Step
round = record { arc = 0; forward = true } ∷ (record { arc = 1; forward = false } ∷ (record { arc = 2; forward = true } ∷ []))
