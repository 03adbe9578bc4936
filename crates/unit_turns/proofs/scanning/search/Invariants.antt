use Rattle.std.proofs.Common.{◌-◌, true, false}
use Rattle.unit_turns.specs.Side.{IsSide, IsGrown, AreApart}
use Rattle.unit_turns.proofs.Growing.{AreScannedTo}
use Rattle.unit_turns.proofs.scanning.search.Given as goal

-- the nodes of the places so far are scanned on both sides
abbrev pub invariant-loop-next : goal.invariant-loop-next
invariant-loop-next l = record {
  ahead : IsSide l.net l.flow (record { ahead = true; avoid = l.avoid }) l.ahead;
  behind : IsSide l.net l.flow (record { ahead = false; avoid = l.avoid }) l.behind;
  apart : AreApart l.ahead l.behind;
  ahead_grown : IsGrown l.initial.ahead l.ahead;
  behind_grown : IsGrown l.initial.behind l.behind;
  ahead_scanned : AreScannedTo l.net l.flow (record { ahead = true; avoid = l.avoid }) l.ahead l.next;
  behind_scanned : AreScannedTo l.net l.flow (record { ahead = false; avoid = l.avoid }) l.behind l.next;
}

abbrev pub decreases-loop-next : goal.decreases-loop-next
decreases-loop-next l = l.net.nodes - l.next
