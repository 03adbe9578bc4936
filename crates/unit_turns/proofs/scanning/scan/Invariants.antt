use Rattle.std.proofs.Common.{ℕ, ◌<◌, ◌≤◌}
use Rattle.std.specs.Prelude.{slice_index}
use Rattle.residual_arcs.specs.Links.{link_at}
use Rattle.unit_turns.specs.Side.{reach_at, place_of, IsSide, IsGrown, IsOpen, AreApart}
use Rattle.unit_turns.proofs.scanning.scan.Given as goal

-- the ends of the open steps so far are reached
abbrev pub invariant-loop-place : goal.invariant-loop-place
invariant-loop-place l = record {
  tree : IsSide l.net l.flow l.aim l.side;
  grown : IsGrown l.initial.side l.side;
  apart : AreApart l.side l.other;
  followed : (i : ℕ) → slice_index l.links.starts.items (reach_at l.initial.side l.from).node ≤ i → i < l.place
      → IsOpen l.net l.flow l.aim (link_at l.links.all.items i).step.arc (link_at l.links.all.items i).step.forward → 0 < place_of l.side (link_at l.links.all.items i).to;
}
