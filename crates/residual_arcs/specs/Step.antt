-- A step over an arc: forward from its tail to its head, or back from its head to its tail.
use Rattle.std.specs.Prelude.{ℕ, ◌+◌, ◌-◌, Bool, if◌then◌else◌, ℤ, neg_ℤ}
use Rattle.bounded_network.specs.declared.network.Arc.{Arc}

abbrev pub start_of : Arc → Bool → ℕ
start_of arc forward = if forward then arc.tail else arc.head

abbrev pub end_of : Arc → Bool → ℕ
end_of arc forward = if forward then arc.head else arc.tail

-- what a unit costs: back, the cost of the arc is given back
abbrev pub step_cost : Arc → Bool → ℤ
step_cost arc forward = if forward then arc.cost else neg_ℤ arc.cost

-- how much more the step may carry, where the arc carries the amount
abbrev pub left_on : Arc → ℕ → Bool → ℕ
left_on arc amount forward = if forward then (arc.room - amount) else (amount - arc.floor)

-- what the arc carries once the step carries an amount
abbrev pub carried : ℕ → Bool → ℕ → ℕ
carried had forward amount = if forward then (had + amount) else (had - amount)
