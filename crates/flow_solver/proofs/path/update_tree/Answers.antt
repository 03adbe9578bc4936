use Rattle.std.proofs.Common.{◌≡◌, ℕ, ◌-◌, ◌^◌, rules}
use Rattle.bounded_network.specs.Network.{potential_at}
use Rattle.flow_solver.specs.State.{IsWithin}
use Rattle.std.specs.Prelude.{FitsSigned}
use Rattle.std.specs.Int.{w64}
use Rattle.std.proofs.lemmas.Int.{to_z-of_z}
use Rattle.flow_solver.specs.Search.{distance_at, reach_at}
use Rattle.flow_solver.proofs.Updates.{updated_more, within_fits}
use Rattle.flow_solver.proofs.path.update_tree.Goals as goal

pub loop-place-preserved : goal.loop-place-preserved
loop-place-preserved c =
    let fits : FitsSigned w64 c.lower-value.result = search rules in
    let inv = c.loop-place.invariant in
    let node : ℕ = (reach_at c.args.tree.now c.loop-place.place).node in
    let here : potential_at c.loop-place.potentials node ≡ potential_at c.args.potentials.now node = inv.rest node (λ i h. c.requires.separate i c.loop-place.place h c.loop-place-test.true) in
    let small : IsWithin (2 ^ 60) (potential_at c.loop-place.potentials node) = rw here (c.requires.small node) in
    let held : FitsSigned w64 (potential_at c.loop-place.potentials node) = within_fits (potential_at c.loop-place.potentials node) small in
    let lowered = rw (to_z-of_z w64 (potential_at c.loop-place.potentials node) held, c.saturating_sub.ensures) at c.lower-value.ensures in
    let more = updated_more (λ i. (reach_at c.args.tree.now i).node) (λ v. c.args.depth - distance_at c.args.distances.now v) c.args.potentials.now c.loop-place.potentials c.loop-place.place _ c.lower-value.result
    (record { long = inv.long; updated = inv.updated; rest = inv.rest }) c.loop-place-test.true c.requires.separate (c.requires.nodes c.loop-place.place c.loop-place-test.true) lowered in
    rw (to_z-of_z w64 c.lower-value.result fits) (record { long = more.long; updated = more.updated; rest = more.rest })
