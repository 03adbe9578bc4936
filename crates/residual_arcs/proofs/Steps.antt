-- Steps: their ends, their costs, and what is left on them.
use Rattle.std.proofs.Common.{◌≡◌, ℕ, ◌<◌, ◌≤◌, ◌⊎◌, Bool, true, false, refl, arith, inl, inr}
use Rattle.bounded_network.specs.Network.{IsArc}
use Rattle.bounded_network.specs.declared.network.Arc.{Arc}
use Rattle.residual_arcs.specs.Links.{HasChoice}
use Rattle.residual_arcs.specs.Step.{start_of, end_of, left_on}

-- an arc on which something is left has a choice
pub choice-from_left : (arc : Arc) (amount : ℕ) (forward : Bool) → arc.floor ≤ amount → amount ≤ arc.room → 0 < left_on arc amount forward → HasChoice arc
choice-from_left arc amount true above below some = omega (arith, above, some)
choice-from_left arc amount false above below some = omega (arith, below, some)

-- the end of a step is the start or the end of the other step over its arc
pub end_among : (arc : Arc) (f g : Bool) → (end_of arc f ≡ start_of arc g) ⊎ (end_of arc f ≡ end_of arc g)
end_among arc true true = inr refl
end_among arc true false = inl refl
end_among arc false true = inl refl
end_among arc false false = inr refl

-- the ends of a step are nodes
pub end_in : (nodes : ℕ) (arc : Arc) (forward : Bool) → IsArc nodes arc → end_of arc forward < nodes
end_in nodes arc true good = good.head
end_in nodes arc false good = good.tail

pub start_in : (nodes : ℕ) (arc : Arc) (forward : Bool) → IsArc nodes arc → start_of arc forward < nodes
start_in nodes arc true good = good.tail
start_in nodes arc false good = good.head
