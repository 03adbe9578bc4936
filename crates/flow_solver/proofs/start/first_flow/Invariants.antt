use Rattle.std.proofs.Common.{◌≡◌, ℕ, ◌<◌, vec_len}
use Rattle.std.specs.Prelude.{slice_index}
use Rattle.bounded_network.specs.Network.{arc_at, reduced_cost}
use Rattle.flow_solver.specs.State.{Suits}
use Rattle.flow_solver.proofs.start.first_flow.Given as goal

-- the amounts so far suit their arcs
abbrev pub invariant-loop-place : goal.invariant-loop-place
invariant-loop-place l = record {
  long : vec_len l.flow ≡ l.place;
  each : (a : ℕ) → a < l.place → Suits (arc_at l.net a) (reduced_cost l.net l.potentials a) (slice_index l.flow.items a);
}
