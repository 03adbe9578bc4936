use Rattle.std.proofs.Common.{◌≡◌, None, length}
use Rattle.match_rules.specs.Breaks.{lock_break}
use Rattle.match_rules.specs.First.{first_below}
use Rattle.match_rules.specs.Pieces.{piece_at}
use Rattle.match_rules.proofs.check.broken_lock.Given as goal

-- the pieces so far break nothing
abbrev pub invariant-loop-k : goal.invariant-loop-k
invariant-loop-k l = first_below l.k (λ k. first_below (length l.rules.pairs) (lock_break l.rules k (piece_at l.pieces k).pairs)) ≡ None
