use Rattle.std.proofs.Common.{◌≡◌, ◌-◌, length}
use Rattle.std.specs.Prelude.{pos, ◌≤ℤ◌}
use Rattle.flow_solver.specs.State.{excess_at}
use Rattle.flow_solver.specs.Search.{IsSearch, IsRelaxedFrom}
use Rattle.flow_solver.proofs.search.run.Given as goal

-- all steps from the settled nodes are relaxed, and none of them has a deficit
abbrev pub invariant-loop-node : goal.invariant-loop-node
invariant-loop-node l = record {
  source : l.search.source ≡ l.initial.search.source;
  search : IsSearch l.state l.search;
  relaxed : IsRelaxedFrom l.state l.search.distances.items l.search.node;
  calm : pos 0 ≤ℤ excess_at l.state.excess.items l.search.node;
}

abbrev pub decreases-loop-node : goal.decreases-loop-node
decreases-loop-node l = l.state.network.now.nodes - length l.search.tree.items
