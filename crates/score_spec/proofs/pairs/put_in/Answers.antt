use Rattle.std.proofs.Common.{[], sym, string_bytes}
use Rattle.score_spec.specs.PairTables.{put_value}
use Rattle.score_spec.proofs.PairTables.{put-through, kept-through}
use Rattle.score_spec.proofs.pairs.put_in.Goals as goal

pub returns-in-Some-clause-put : goal.returns-in-Some-clause-put
returns-in-Some-clause-put g c =
    put-through c.put.result (put_value (string_bytes c.args.reviewer) c.args.value) c.args.paper.now [] c.in-Some.reviewers.now c.put.new.self c.args.papers.now _
    (sym (rw c.in-Some.is at c.get_mut.ensures.value)) (rw c.in-Some.is at c.get_mut.follows.holds c.put.new.self) c.put.ensures.put

pub returns-in-Some-clause-kept : goal.returns-in-Some-clause-kept
returns-in-Some-clause-kept g c =
    kept-through c.put.result c.args.paper.now c.in-Some.reviewers.now c.put.new.self c.args.papers.now _ c.get_mut.ensures.ascend
    (sym (rw c.in-Some.is at c.get_mut.ensures.value)) (rw c.in-Some.is at c.get_mut.follows.holds c.put.new.self) c.put.ensures.kept
