use Rattle.std.proofs.Common.{◌≡◌, None}
use Rattle.match_rules.specs.Breaks.{demand_break}
use Rattle.match_rules.specs.First.{first_below}
use Rattle.match_rules.proofs.check.demand_in_piece.Given as goal

abbrev pub invariant-loop-p : goal.invariant-loop-p
invariant-loop-p l = first_below l.p (demand_break l.rules l.k l.places) ≡ None
