use Rattle.std.proofs.Common.{◌≤◌, length, arith}
use Rattle.editions.proofs.Folders.{reads_so, no_more_tables}
use Rattle.editions.proofs.loading.read_tables.Goals as goal

pub returns-clause-reads : goal.returns-clause-reads
returns-clause-reads g c =
    let past : length c.args.tables.now ≤ c.loop-table.table-index = omega arith in
    reads_so _ _ _ _ c.loop-table.invariant.reads (λ files so. no_more_tables files c.args.tables.now c.loop-table.table-index c.args.start c.loop-table.venue past so)
