use Rattle.std.proofs.Common.{ℕ, ◌<◌}
use Rattle.std.specs.Prelude.{slice_index_or}
use Rattle.bounded_network.specs.Network.{IsArc, no_arc}
use Rattle.bounded_network.proofs.limits.is_within.Given as goal

-- the arcs so far are within the limits
abbrev pub invariant-loop-arc : goal.invariant-loop-arc
invariant-loop-arc l = (a : ℕ) → a < l.arc-index → IsArc l.nodes (slice_index_or l.arcs a no_arc)
