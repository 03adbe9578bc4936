use Rattle.std.proofs.Common.{◌+◌, List, drop, ◌+ℤ◌, FitsSigned, w64, to_z, of_z, rules, sym, ap, ap₂, ◌∙◌}
use Rattle.std.proofs.lemmas.Int.{to_z-of_z}
use Rattle.std.proofs.lemmas.List.{at_drop_more, at_drop_all}
use Rattle.score_spec.specs.PaperScores.{PaperScoresValue, part_by, sum_by}
use Rattle.score_spec.specs.Scores.{score_of, weighted_sum}
use Rattle.score_spec.specs.declared.paper_scores.PaperSource.{PaperSource}
use Rattle.score_spec.proofs.Products.{sum_step, sum_end, bounds_step}
use Rattle.score_spec.proofs.paper_scores.PaperScores.score.Goals as goal

pub loop-part-preserved : goal.loop-part-preserved
loop-part-preserved c =
    let done = to_z w64 c.loop-part.total-bits in
    let part_fits : FitsSigned w64 c.weighted-total.result = search rules in
    let fits : FitsSigned w64 (to_z w64 c.loop-part.total-bits +ℤ to_z w64 (of_z w64 c.weighted-total.result)) = search rules in
    let parts = c.as_slice-part-items.result.now in
    let i = c.loop-part.part-index in
    let total_of = λ (parts : List PaperSource). sum_by c.as_slice-words.result.now parts c.args.reviewer.now in
    let part_of = λ (part : PaperSource). part_by c.as_slice-words.result.now part c.args.reviewer.now in
    let next = at_drop_more total_of parts i c.part-item.result c.loop-part-test.true ∙ ap (λ part. part +ℤ total_of (drop (i + 1) parts)) (sym (c.weighted-total.ensures.part ∙ ap part_of c.part-item.is)) in
    let is = to_z-of_z w64 _ fits ∙ ap (λ part. done +ℤ part) (to_z-of_z w64 c.weighted-total.result part_fits) in
    let bounds = bounds_step 1000000000 i done c.weighted-total.result _ c.loop-part.invariant.1 c.loop-part.invariant.2 c.weighted-total.ensures.low c.weighted-total.ensures.high is in
    (sum_step done c.weighted-total.result _ _ _ _ c.loop-part.invariant.0 next is, bounds.0, bounds.1)

pub returns-clause-sum : goal.returns-clause-sum
unfolding score_of
returns-clause-sum c =
    let reviewer = c.args.reviewer.now in
    let parts = c.as_slice-part-items.result.now in
    let total_of = λ (parts : List PaperSource). sum_by c.as_slice-words.result.now parts reviewer in
    sum_end _ _ _ c.loop-part.invariant.0 (at_drop_all total_of parts c.loop-part.part-index c.loop-part-test.false)
    ∙ ap₂ (λ words parts. sum_by words parts reviewer) c.as_slice-words.ensures c.as_slice-part-items.ensures.value
    ∙ c.self.invariant.sum reviewer
    ∙ ap (λ (of_paper : PaperScoresValue). weighted_sum of_paper.spec.words of_paper.scores of_paper.paper reviewer of_paper.spec.sources) c.self.view_is
