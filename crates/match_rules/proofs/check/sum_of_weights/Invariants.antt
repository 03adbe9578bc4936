use Rattle.std.proofs.Common.{◌≡◌, ◌*◌, ◌≤◌, take}
use Rattle.match_rules.specs.declared.rules.TheConstants.{MOST_TICKETS}
use Rattle.match_rules.specs.Assignments.{tickets}
use Rattle.match_rules.proofs.check.sum_of_weights.Given as goal

abbrev pub invariant-loop-piece : goal.invariant-loop-piece
invariant-loop-piece l = (l.sum ≡ tickets (take l.piece-index l.pieces)) × (l.sum ≤ MOST_TICKETS * l.piece-index)
