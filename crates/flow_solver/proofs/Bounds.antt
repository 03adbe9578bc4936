-- How large potentials and distances are.
use Rattle.std.proofs.Common.{◌≡◌, ℕ, ◌*◌, ◌^◌, ◌<◌, Bool, true, List, length, ap, arith, inl, inr}
use Rattle.std.specs.Prelude.{ℤ, pos, ◌+ℤ◌, ◌-ℤ◌, ◌<ℤ◌}
use Rattle.std.specs.declared.cmp.Reverse.{Reverse}
use Rattle.std.proofs.lemmas.Int.{ints}
use Rattle.std.proofs.lemmas.Bool.{cases_lt, cases_eq}
use Rattle.std.proofs.lemmas.List.{get_or_past}
use Rattle.bounded_network.specs.Network.{arc_at, potential_at}
use Rattle.bounded_network.specs.declared.network.Arc.{Arc}
use Rattle.bounded_network.specs.declared.network.TheConstants.{MAX_NODES}
use Rattle.flow_solver.specs.declared.state.State.{State}
use Rattle.flow_solver.specs.declared.search.Reach.{Reach}
use Rattle.residual_arcs.specs.Step.{start_of, end_of, step_cost}
use Rattle.flow_solver.specs.Step.{step_reduced}
use Rattle.flow_solver.specs.State.{IsWithin, most_cost}
use Rattle.flow_solver.specs.Search.{distance_at, reach_at, is_settled, IsTree, IsSearchOf}
use Rattle.flow_solver.proofs.Searches.{step_cost_within}
use Rattle.flow_solver.proofs.Settling.{tree_short}

-- a potential is small
pub potential_within : (state : State) → (v : ℕ) → IsWithin (most_cost * MAX_NODES) (potential_at state.potentials.items v)
potential_within state v = elim (cases_lt v state.network.now.nodes) [
  | inl below ↦ let b = state.kept.bounded v below in record { low = omega (arith, ints, b.low, state.good.few_nodes); high = omega (arith, ints, b.high, state.good.few_nodes) }
  | inr above ↦
      let past : potential_at state.potentials.items v ≡ pos 0 = get_or_past state.potentials.items v (pos 0) (omega (arith, state.kept.potentials_long)) in
      rw past record { low = omega (arith, ints); high = omega (arith, ints) }
]

-- the distance by way of a step from a settled node is small
pub over_settled_small : (state : State) (source : ℕ) (tree : List Reach) (distances : List ℕ) (settled : List Bool)
    → IsTree state source tree distances settled → (u : ℕ) → is_settled settled u ≡ true
    → (a : ℕ) (forward : Bool) → a < length state.network.now.arcs → start_of (arc_at state.network.now a) forward ≡ u
    → (pos (distance_at distances u) +ℤ step_reduced (arc_at state.network.now a) forward state.potentials.items) <ℤ pos (2 ^ 60)
over_settled_small state source tree distances settled is_tree u u_settled a forward a_in starts =
    let root_settled : is_settled settled source ≡ true = rw is_tree.root at (is_tree.are_settled 0 is_tree.some) in
    let near = is_tree.near u source u_settled root_settled in
    let short = tree_short state source tree distances settled is_tree in
    let cost = step_cost_within state.network.now.nodes (arc_at state.network.now a) forward (state.good.each a a_in) in
    let at_start = ap (potential_at state.potentials.items) starts in
    let p = potential_within state source in
    let q = potential_within state (end_of (arc_at state.network.now a) forward) in
    let root = is_tree.root_distance in
    let few = state.good.few_nodes in
    omega (arith, ints, near, short, cost.high, at_start, p.high, q.low, root, few)

-- so it is from the last settled node
pub over_small : (state : State) (source node : ℕ) (tree reaches : List Reach) (distances : List ℕ) (settled : List Bool) (waiting : List (Reverse ℕ × ℕ))
    → IsSearchOf state source node tree reaches distances settled waiting
    → (a : ℕ) (forward : Bool) → a < length state.network.now.arcs → start_of (arc_at state.network.now a) forward ≡ node
    → (pos (distance_at distances node) +ℤ step_reduced (arc_at state.network.now a) forward state.potentials.items) <ℤ pos (2 ^ 60)
over_small state source node tree reaches distances settled waiting search =
    over_settled_small state source tree distances settled search.is_tree node search.node_settled

-- the reduced cost of a step from its parts
pub step_reduced-parts : (arc : Arc) (forward : Bool) (potentials : List ℤ) (node : ℕ) (cost from to : ℤ) → start_of arc forward ≡ node → cost ≡ step_cost arc forward → from ≡ potential_at potentials node → to ≡ potential_at potentials (end_of arc forward) → (cost +ℤ from) -ℤ to ≡ step_reduced arc forward potentials
step_reduced-parts arc forward potentials node cost from to starts cost_is from_is to_is =
    let at_start : potential_at potentials (start_of arc forward) ≡ potential_at potentials node = ap (potential_at potentials) starts in
    rw (cost_is, from_is, to_is) (omega (arith, ints, at_start))

-- each place of the tree carries something
pub width_some : (state : State) (source : ℕ) (tree : List Reach) (distances : List ℕ) (settled : List Bool) → IsTree state source tree distances settled → (i : ℕ) → i < length tree → 0 < (reach_at tree i).width
width_some state source tree distances settled is_tree i b = elim (cases_eq i 0) [
  | inl e ↦ rw e is_tree.root_some
  | inr ne ↦ (is_tree.reaches i (omega arith) b).some
]

-- the distance of a settled node is small
pub settled_small : (state : State) (source : ℕ) (tree : List Reach) (distances : List ℕ) (settled : List Bool)
    → IsTree state source tree distances settled → (u : ℕ) → is_settled settled u ≡ true → distance_at distances u < 2 ^ 60
settled_small state source tree distances settled is_tree u u_settled =
    let root_settled : is_settled settled source ≡ true = rw is_tree.root at (is_tree.are_settled 0 is_tree.some) in
    let near = is_tree.near u source u_settled root_settled in
    let short = tree_short state source tree distances settled is_tree in
    let p = potential_within state source in
    let q = potential_within state u in
    let root = is_tree.root_distance in
    let few = state.good.few_nodes in
    omega (arith, ints, near, short, p.high, q.low, root, few)
