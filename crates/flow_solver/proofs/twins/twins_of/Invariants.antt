use Rattle.std.proofs.Common.{◌≡◌, length}
use Rattle.flow_solver.proofs.twins.twins_of.Given as goal

abbrev pub invariant-loop-place : goal.invariant-loop-place
invariant-loop-place l = record {
  twins : length l.twins.items ≡ length l.links.all.items;
  seen : length l.seen.items ≡ length l.net.arcs;
}
