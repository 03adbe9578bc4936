use Rattle.std.proofs.Common.{◌≡◌, None}
use Rattle.match_rules.specs.Breaks.{group_break}
use Rattle.match_rules.specs.First.{first_below}
use Rattle.match_rules.specs.Groups.{group_count}
use Rattle.match_rules.specs.Pieces.{piece_at}
use Rattle.match_rules.specs.Sound.{AreCounts}
use Rattle.match_rules.proofs.group_check.broken_group.Given as goal

-- the pieces so far break nothing, and all counters are clear
abbrev pub invariant-loop-k : goal.invariant-loop-k
invariant-loop-k l = record {
  none : first_below l.k (λ k. first_below (group_count l.rules) (group_break l.rules k (piece_at l.pieces k).pairs)) ≡ None;
  zero : AreCounts l.counts (group_count l.rules) (λ g. 0);
}
