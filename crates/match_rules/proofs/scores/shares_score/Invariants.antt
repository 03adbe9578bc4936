use Rattle.std.proofs.Common.{◌≡◌, ◌^◌, ◌*◌, pos, ◌≤ℤ◌, neg_ℤ}
use Rattle.std.specs.Prelude.{◌*ℤ◌, slice_index}
use Rattle.match_rules.specs.Rules.{pair_at}
use Rattle.match_rules.specs.Sums.{sum_below}
use Rattle.match_rules.proofs.scores.shares_score.Given as goal

abbrev pub invariant-loop-pair : goal.invariant-loop-pair
invariant-loop-pair l =
    (l.sum ≡ sum_below l.pair (λ e. pos (slice_index l.shares e) *ℤ (pair_at l.rules e).score))
    × (neg_ℤ (pos (2 ^ 80 * l.pair)) ≤ℤ l.sum) × (l.sum ≤ℤ pos (2 ^ 80 * l.pair))
