use Rattle.std.proofs.Common.{◌≡◌, ◌≤◌, drop}
use Rattle.editions.specs.Loads.{ReadsFiles, after_files}
use Rattle.editions.proofs.loading.read_tables.Given as goal

abbrev pub invariant-loop-table : goal.invariant-loop-table
invariant-loop-table g l = record {
  reads : ReadsFiles (g.F.Folder.files l.fn.folder) (g.F.Folder.files l.folder) (λ files. after_files files l.tables l.fn.start ≡ after_files files (drop l.table-index l.tables) l.venue);
  later : g.F.Folder.faults l.fn.folder ≤ g.F.Folder.faults l.folder;
}
