use Rattle.std.proofs.Common.{◌≡◌, ℕ, ◌-◌, ◌<◌, ◌≤◌, length}
use Rattle.std.specs.Prelude.{slice_index}
use Rattle.flow_solver.specs.Search.{reach_at}
use Rattle.flow_solver.specs.State.{IsShifted}
use Rattle.flow_solver.proofs.path.carry_along.Given as goal

-- the amount came from the place to the last node, and the arcs below carry what they carried
abbrev pub invariant-loop-place : goal.invariant-loop-place
invariant-loop-place l = record {
  network : l.state.network.now ≡ l.initial.state.network.now;
  potentials : l.state.potentials.items ≡ l.initial.state.potentials.items;
  inside : l.place < length l.tree;
  wide : l.amount ≤ (reach_at l.tree l.place).width;
  flows : (i : ℕ) → 0 < i → i ≤ l.place → slice_index l.state.flow.items (reach_at l.tree i).step.arc ≡ slice_index l.initial.state.flow.items (reach_at l.tree i).step.arc;
  moved : IsShifted l.initial.state.excess.items l.state.excess.items (reach_at l.tree l.place).node (reach_at l.tree (length l.tree - 1)).node l.amount;
}

abbrev pub decreases-loop-place : goal.decreases-loop-place
decreases-loop-place l = l.place
