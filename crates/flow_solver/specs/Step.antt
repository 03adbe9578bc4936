-- The reduced cost of a step.
use Rattle.std.specs.Prelude.{Bool, ℤ, ◌+ℤ◌, ◌-ℤ◌, List}
use Rattle.bounded_network.specs.declared.network.Arc.{Arc}
use Rattle.bounded_network.specs.Network.{potential_at}
use Rattle.residual_arcs.specs.Step.{start_of, end_of, step_cost}

-- the cost of the step, and the potential of its start, less that of its end
abbrev pub step_reduced : Arc → Bool → List ℤ → ℤ
step_reduced arc forward potentials =
    (step_cost arc forward +ℤ potential_at potentials (start_of arc forward)) -ℤ potential_at potentials (end_of arc forward)
