use Rattle.std.proofs.Common.{◌≡◌, ◌*◌, pos, neg_ℤ, ◌+ℤ◌, ◌≤ℤ◌, drop}
use Rattle.score_spec.specs.PaperScores.{sum_by}
use Rattle.score_spec.proofs.paper_scores.PaperScores.score.Given as goal

abbrev pub invariant-loop-part : goal.invariant-loop-part
invariant-loop-part l =
    (l.total +ℤ sum_by l.words (drop l.part-index l.part-items) l.reviewer ≡ sum_by l.words l.part-items l.reviewer)
    × (neg_ℤ (pos (1000000000 * l.part-index)) ≤ℤ l.total) × (l.total ≤ℤ pos (1000000000 * l.part-index))
