use Rattle.std.proofs.Common.{◌∙◌}
use Rattle.editions.proofs.Folders.{reads_so, reads_more, settings_fail, other_tables}
use Rattle.editions.proofs.loading.venue_of.Goals as goal

pub returns-in-Err-read_table-clause-reads : goal.returns-in-Err-read_table-clause-reads
returns-in-Err-read_table-clause-reads g c =
    reads_so _ _ _ _ c.in-Err-read_table.ensures.reads (λ files fails. settings_fail c.in-Err-read_table.fault c.in-Ok.empty files c.in-Ok.ensures fails)

pub returns-in-Ok-tables_beside-clause-reads : goal.returns-in-Ok-tables_beside-clause-reads
returns-in-Ok-tables_beside-clause-reads g c =
    reads_more _ _ _ _ _ _ c.in-Ok-read_table.ensures.reads c.read_tables.ensures.reads (λ files first others. other_tables c.read_tables.result c.in-Ok.empty c.in-Ok-read_table.venue c.as_slice.result.now files c.in-Ok.ensures (c.as_slice.ensures.value ∙ c.in-Ok-tables_beside.ensures) first others)
