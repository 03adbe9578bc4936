use Rattle.std.proofs.Common.{◌≡◌, ◌+◌, ◌<◌, ◌^◌, length}
use Rattle.std.specs.Vec.Iter.{into_iter_items}
use Rattle.table_edits.specs.Puts.{put_all}
use Rattle.table_edits.proofs.puts.put_rows.Given as goal

abbrev pub invariant-loop-row : goal.invariant-loop-row
invariant-loop-row g l = record {
  fits : l.number + length (into_iter_items l.row-iterator) < 2 ^ 64;
  rest : put_all (g.K.Target.has_room l.kind) (g.K.Target.with_row l.kind) l.fn.first l.fn.table l.fn.rows.items ≡ put_all (g.K.Target.has_room l.kind) (g.K.Target.with_row l.kind) l.number l.table (into_iter_items l.row-iterator);
}
