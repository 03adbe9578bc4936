use Rattle.std.proofs.Common.{◌≡◌}
use Rattle.bounded_network.specs.Back.{group_price_in}
use Rattle.bounded_network.specs.Compile.{listed}
use Rattle.bounded_network.proofs.back.group_prices.Given as goal

-- the prices so far
abbrev pub invariant-loop-g : goal.invariant-loop-g
invariant-loop-g l = l.prices.items ≡ listed l.g (group_price_in l.rules l.potentials)
