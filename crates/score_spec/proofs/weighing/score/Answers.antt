use Rattle.std.proofs.Common.{◌≡◌, ◌<◌, ◌≤◌, ◌+◌, List, length, drop, get_or, ◌+ℤ◌, ◌*ℤ◌, FitsSigned, w64, to_z, of_z, rules, sym, ap, ◌∙◌}
use Rattle.std.proofs.lemmas.Int.{to_z-of_z}
use Rattle.std.proofs.lemmas.List.{at_drop_more, at_drop_all}
use Rattle.score_spec.specs.Scores.{score_of, source_value, weighted_sum}
use Rattle.score_spec.specs.Sources.{SourceValue}
use Rattle.score_spec.proofs.Products.{sum_step, sum_end, bounds_step}
use Rattle.score_spec.proofs.weighing.score.Goals as goal

pub loop-source-preserved : goal.loop-source-preserved
loop-source-preserved c =
    let done = to_z w64 c.loop-source.total-bits in
    let part_fits : FitsSigned w64 c.weighted-total.result = search rules in
    let fits : FitsSigned w64 (to_z w64 c.loop-source.total-bits +ℤ to_z w64 (of_z w64 c.weighted-total.result)) = search rules in
    let sources = c.args.spec.now.sources in
    let i = c.loop-source.source-index in
    let total_of = λ (sources : List SourceValue). weighted_sum c.as_slice-words.result.now c.args.scores.now c.args.paper.now c.args.reviewer.now sources in
    let part_of = λ (source : SourceValue). source.weight *ℤ source_value c.as_slice-words.result.now c.args.scores.now c.args.paper.now c.args.reviewer.now source in
    let here : c.source-item.result ≡ get_or c.args.spec.now.sources c.loop-source.source-index c.source-item.result = rw c.as_slice-source-items.ensures at c.source-item.is in
    let lt : c.loop-source.source-index < length c.args.spec.now.sources = rw c.as_slice-source-items.ensures at c.loop-source-test.true in
    let next = at_drop_more total_of sources i c.source-item.result lt ∙ ap (λ part. part +ℤ total_of (drop (i + 1) sources)) (sym (c.weighted-total.ensures.part ∙ ap part_of here)) in
    let is = to_z-of_z w64 _ fits ∙ ap (λ part. done +ℤ part) (to_z-of_z w64 c.weighted-total.result part_fits) in
    let bounds = bounds_step 1000000000 i done c.weighted-total.result _ c.loop-source.invariant.1 c.loop-source.invariant.2 c.weighted-total.ensures.low c.weighted-total.ensures.high is in
    (sum_step done c.weighted-total.result _ _ _ _ c.loop-source.invariant.0 next is, bounds.0, bounds.1)

pub returns-clause-sum : goal.returns-clause-sum
unfolding score_of
returns-clause-sum c =
    let total_of = λ (sources : List SourceValue). weighted_sum c.as_slice-words.result.now c.args.scores.now c.args.paper.now c.args.reviewer.now sources in
    let le : length c.args.spec.now.sources ≤ c.loop-source.source-index = rw c.as_slice-source-items.ensures at c.loop-source-test.false in
    rw (← c.as_slice-words.ensures) (sum_end _ _ _ c.loop-source.invariant.0 (at_drop_all total_of c.args.spec.now.sources c.loop-source.source-index le))
