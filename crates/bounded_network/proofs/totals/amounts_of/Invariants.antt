use Rattle.std.proofs.Common.{◌≡◌, take}
use Rattle.bounded_network.proofs.totals.amounts_of.Given as goal

-- the amounts of the pairs so far
abbrev pub invariant-loop-share : goal.invariant-loop-share
invariant-loop-share l = l.amounts.items ≡ take l.share-index l.of_pairs
