use Rattle.std.proofs.Common.{◌≡◌}
use Rattle.bounded_network.specs.Back.{reviewer_price_in}
use Rattle.bounded_network.specs.Compile.{listed}
use Rattle.bounded_network.proofs.back.reviewer_prices.Given as goal

-- the prices so far
abbrev pub invariant-loop-r : goal.invariant-loop-r
invariant-loop-r l = l.prices.items ≡ listed l.r (reviewer_price_in l.rules l.potentials)
