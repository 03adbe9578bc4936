use Rattle.bid_import.proofs.Tables.{sources-listed}
use Rattle.bid_import.proofs.sources.sources_of.Goals as goal

pub returns-clause-same : goal.returns-clause-same
returns-clause-same c =
    let found = rw c.in_ok-nodes.ensures.ok_part at c.as_array.ensures in
    rw (← sources-listed _ c.in_ok-nodes.nodes.now.items found) (rw c.as_slice.ensures.value at c.sources_in.ensures.same)
