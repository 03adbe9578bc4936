use Rattle.std.proofs.Common.{◌≡◌, None, take}
use Rattle.match_rules.specs.Rules.{locked_places}
use Rattle.match_rules.proofs.Locks.{first_in, lack}
use Rattle.match_rules.proofs.check.lock_in_piece.Given as goal

-- each locked pair so far is there
abbrev pub invariant-loop-e : goal.invariant-loop-e
invariant-loop-e l = first_in (take l.e-index (locked_places l.rules)) (lack l.k l.places) ≡ None
