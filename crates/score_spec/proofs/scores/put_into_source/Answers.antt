use Rattle.std.proofs.Common.{[], sym}
use Rattle.score_spec.specs.PairTables.{put_pair}
use Rattle.score_spec.proofs.PairTables.{put-through, kept-through}
use Rattle.score_spec.proofs.scores.put_into_source.Goals as goal

pub returns-in-Some-clause-put : goal.returns-in-Some-clause-put
returns-in-Some-clause-put c =
    put-through c.put.result (put_pair c.args.paper c.args.reviewer c.args.value) c.args.source.now [] c.in-Some.table.now c.put.new.self c.args.tables.now _
    (sym (rw c.in-Some.is at c.get_mut.ensures.value)) (rw c.in-Some.is at c.get_mut.follows.holds c.put.new.self) c.put.ensures.put

pub returns-in-Some-clause-kept : goal.returns-in-Some-clause-kept
returns-in-Some-clause-kept c =
    kept-through c.put.result c.args.source.now c.in-Some.table.now c.put.new.self c.args.tables.now _ c.get_mut.ensures.ascend
    (sym (rw c.in-Some.is at c.get_mut.ensures.value)) (rw c.in-Some.is at c.get_mut.follows.holds c.put.new.self) c.put.ensures.kept
