use Rattle.std.specs.Prelude.{slice_index}
use Rattle.flow_solver.specs.Search.{IsSearch, SameTree}
use Rattle.flow_solver.proofs.Relaxing.{AreRelaxedTo}
use Rattle.flow_solver.proofs.search.relax_all.Given as goal

-- the links so far are relaxed
abbrev pub invariant-loop-place : goal.invariant-loop-place
invariant-loop-place l = record {
  same : SameTree l.initial.search l.search;
  search : IsSearch l.state l.search;
  relaxed : AreRelaxedTo l.state l.search.distances.items l.search.node l.links.all.items (slice_index l.links.starts.items l.search.node) l.place;
}
