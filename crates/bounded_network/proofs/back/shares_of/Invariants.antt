use Rattle.std.proofs.Common.{◌≡◌, take}
use Rattle.bounded_network.proofs.back.shares_of.Given as goal

-- the amounts so far
abbrev pub invariant-loop-e : goal.invariant-loop-e
invariant-loop-e l = l.tickets.items ≡ take l.e l.flow
