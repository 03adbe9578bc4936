use Rattle.std.proofs.Common.{◌∙◌}
use Rattle.roster.proofs.Copies.{copied}
use Rattle.roster.proofs.table.Table.copy.Goals as goal

pub loop-row-preserved : goal.loop-row-preserved
loop-row-preserved g c = c.in_ok-push.ensures.items ∙ copied _ _ _ c.row-item.result c.in_ok-copy.field-0 c.loop-row-test.true c.row-item.is c.in_ok-copy.ensures c.loop-row.invariant
