use Rattle.std.proofs.Common.{◌≡◌, ◌*◌, pos, neg_ℤ, ◌+ℤ◌, ◌≤ℤ◌, drop}
use Rattle.score_spec.specs.Scores.{weighted_sum}
use Rattle.score_spec.proofs.weighing.score.Given as goal

abbrev pub invariant-loop-source : goal.invariant-loop-source
invariant-loop-source l =
    (l.total +ℤ weighted_sum l.words l.scores l.paper l.reviewer (drop l.source-index l.spec.sources) ≡ weighted_sum l.words l.scores l.paper l.reviewer l.spec.sources)
    × (neg_ℤ (pos (1000000000 * l.source-index)) ≤ℤ l.total) × (l.total ≤ℤ pos (1000000000 * l.source-index))
