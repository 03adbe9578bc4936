use Rattle.std.proofs.Common.{◌≡◌, ◌+◌, take}
use Rattle.match_rules.specs.Assignments.{tickets}
use Rattle.match_rules.proofs.drawing.piece_of.Given as goal

abbrev pub invariant-loop-place : goal.invariant-loop-place
invariant-loop-place l = tickets (take l.place l.piece-items) + l.left ≡ l.ticket
