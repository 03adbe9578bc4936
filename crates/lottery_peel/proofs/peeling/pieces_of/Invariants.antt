use Rattle.std.proofs.Common.{◌≡◌}
use Rattle.lottery_peel.specs.Peeling.{IsPeeling}
use Rattle.lottery_peel.proofs.peeling.pieces_of.Given as goal

-- some shares are given to pieces, and the rest is left
abbrev pub invariant-loop-alloc : goal.invariant-loop-alloc
invariant-loop-alloc l = record {
  rules : l.remainder.rules ≡ l.rules;
  peeling : IsPeeling l.rules l.shares l.remainder.left l.remainder.rest l.pieces.items;
}

abbrev pub decreases-loop-alloc : goal.decreases-loop-alloc
decreases-loop-alloc l = l.remainder.left
