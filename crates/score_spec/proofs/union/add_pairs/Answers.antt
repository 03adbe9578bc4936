use Rattle.std.proofs.Common.{string_bytes}
use Rattle.std.specs.Map.Iter.{deref_pair}
use Rattle.std.proofs.lemmas.Map.Iter.{rest_more}
use Rattle.score_spec.specs.TextMaps.{entries_of}
use Rattle.score_spec.proofs.PairKeys.{papers-step, pairs-rest}
use Rattle.score_spec.proofs.PairTables.{entry}
use Rattle.score_spec.proofs.union.add_pairs.Goals as goal

pub loop-paper-preserved : goal.loop-paper-preserved
loop-paper-preserved g c =
    let item = rest_more deref_pair c.loop-paper.paper-iterator c.next.new.self c.next.result (c.in-Some.paper, c.in-Some.reviewers) c.in-Some.is c.next.ensures.steps in
    let pairs = rw item at c.loop-paper.invariant.1 in
    let this = entry (string_bytes c.in-Some.paper.now) c.in-Some.reviewers.now in (
      c.in_ok-add_reviewers.ensures.pairs,
      pairs-rest this (entries_of c.next.new.self) pairs,
      λ p r. papers-step this (entries_of c.next.new.self) c.loop-paper.union c.add_reviewers.new.union p r _ pairs.papers (rw c.as_str.ensures.value at c.in_ok-add_reviewers.ensures.has p r) (rw item at c.loop-paper.invariant.2 p r),
    )
