use Rattle.std.proofs.Common.{◌≡◌, None}
use Rattle.match_rules.specs.Breaks.{load_break}
use Rattle.match_rules.specs.First.{first_below}
use Rattle.match_rules.proofs.check.load_in_piece.Given as goal

abbrev pub invariant-loop-r : goal.invariant-loop-r
invariant-loop-r l = first_below l.r (load_break l.rules l.k l.places) ≡ None
