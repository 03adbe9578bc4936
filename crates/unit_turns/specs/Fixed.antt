-- A network with one arc held at an amount.
use Rattle.std.specs.Prelude.{ℕ, slice_set}
use Rattle.bounded_network.specs.declared.network.Arc.{Arc}
use Rattle.bounded_network.specs.Network.{NetworkValue, arc_at}

-- the arc carries the amount and no other
abbrev pub fixed_arc : Arc → ℕ → Arc
fixed_arc arc amount = record { tail = arc.tail; head = arc.head; floor = amount; room = amount; cost = arc.cost }

abbrev pub with_fixed : NetworkValue → ℕ → ℕ → NetworkValue
with_fixed net a amount = record { nodes = net.nodes; arcs = slice_set net.arcs a (fixed_arc (arc_at net a) amount) }
