use Rattle.std.proofs.Common.{string_bytes}
use Rattle.std.specs.Map.Iter.{deref_pair}
use Rattle.std.proofs.lemmas.Map.Iter.{rest_more}
use Rattle.score_spec.specs.TextMaps.{entries_of}
use Rattle.score_spec.proofs.PairKeys.{reviewers-step}
use Rattle.score_spec.proofs.PairTables.{pairs-put}
use Rattle.score_spec.proofs.union.add_reviewers.Goals as goal

pub loop-reviewer-preserved : goal.loop-reviewer-preserved
loop-reviewer-preserved g c =
    let item = rest_more deref_pair c.loop-reviewer.reviewer-iterator c.next.new.self c.next.result (c.in-Some.reviewer, c.in-Some.field-0-1) c.in-Some.is c.next.ensures.steps in
    let id = string_bytes c.in-Some.reviewer.now in
    let ids = rw item at c.loop-reviewer.invariant.1 in
    rw (c.in_ok-put_in.ensures.put, c.in_ok-reviewer.ensures.ok, c.as_str.ensures.value) (
      pairs-put c.args.paper.now id tt c.loop-reviewer.union c.requires.paper ids.0 c.loop-reviewer.invariant.0,
      ids.1,
      λ p r. reviewers-step c.args.paper.now id c.in-Some.field-0-1.now (entries_of c.next.new.self) tt c.loop-reviewer.union p r _ (rw item at c.loop-reviewer.invariant.2 p r),
    )
