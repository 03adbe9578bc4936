use Rattle.std.proofs.Common.{◌≡◌}
use Rattle.bounded_network.specs.Back.{paper_price_in}
use Rattle.bounded_network.specs.Compile.{listed}
use Rattle.bounded_network.proofs.back.paper_prices.Given as goal

-- the prices so far
abbrev pub invariant-loop-p : goal.invariant-loop-p
invariant-loop-p l = l.prices.items ≡ listed l.p (paper_price_in l.rules l.potentials)
