use Rattle.std.proofs.Common.{◌≡◌, ◌<◌, length, get_or, arith}
use Rattle.score_spec.proofs.PaperSums.{sums-more}
use Rattle.score_spec.proofs.paper_scores.parts_of.Goals as goal

pub loop-source-preserved : goal.loop-source-preserved
loop-source-preserved c =
    let sources = c.args.spec.now.sources in
    let i = c.loop-source.source-index in
    let here : c.source-item.result ≡ get_or sources i c.source-item.result = rw c.as_slice-source-items.ensures at c.source-item.is in
    let lt : i < length sources = rw c.as_slice-source-items.ensures at c.loop-source-test.true in
    record {
      count = omega (arith, c.in_ok-push.ensures.len, c.loop-source.invariant.count);
      sums = rw c.in_ok-push.ensures.items (sums-more c.args.spec.now.words c.args.scores.now c.args.paper.now c.loop-source.parts.items _ c.source-item.result sources i lt here c.of.ensures c.loop-source.invariant.sums);
    }
