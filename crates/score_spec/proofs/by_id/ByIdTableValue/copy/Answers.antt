use Rattle.std.proofs.Common.{string_bytes}
use Rattle.std.specs.Map.Iter.{deref_pair}
use Rattle.std.proofs.lemmas.Map.Iter.{rest_more}
use Rattle.score_spec.specs.TextMaps.{entries_of}
use Rattle.score_spec.proofs.PairTables.{put-next}
use Rattle.score_spec.proofs.by_id.ByIdTableValue.copy.Goals as goal

pub loop-id-preserved : goal.loop-id-preserved
loop-id-preserved g c =
    let item = rest_more deref_pair c.loop-id.id-iterator c.next.new.self c.next.result (c.in-Some.id, c.in-Some.value) c.in-Some.is c.next.ensures.steps in
    rw (c.in_ok-put_copy.ensures, c.as_str.ensures.value)
    (put-next (string_bytes c.in-Some.id.now) c.in-Some.value.now c.loop-id.copy (entries_of c.next.new.self) c.args.self.now c.iter-id-items.ensures.ascend (rw item at c.loop-id.invariant))
