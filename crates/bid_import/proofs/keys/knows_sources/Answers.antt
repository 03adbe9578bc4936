use Rattle.std.proofs.Common.{◌∙◌}
use Rattle.bid_import.proofs.Tables.{known-tables}
use Rattle.bid_import.proofs.keys.knows_sources.Goals as goal

pub returns-in-Some : goal.returns-in-Some
returns-in-Some c = rw c.as_slice.ensures.value at c.knows_each.ensures ∙ known-tables _ c.in-Some.nodes.now.items c.in-Some.ensures
