use Rattle.std.proofs.Common.{◌≡◌, ◌≤◌, ◌+◌, ℕ, List, Some, false, length}
use Rattle.csv.specs.Machine.{ends_at_end}
use Rattle.csv.specs.Reading.{Ready, default_config, source_of}
use Rattle.csv.specs.declared.reader.Trim.TheVariants as trim
use Rattle.bid_import.specs.Files.{rows_of_file}
use Rattle.bid_import.specs.Kinds.{columns_of, most_records}
use Rattle.bid_import.specs.RecordLoop.{rest_of, IsProgress}
use Rattle.bid_import.proofs.Streams.{left_records}
use Rattle.bid_import.proofs.records.read_rows.Given as goal

abbrev pub invariant-loop-turn : goal.invariant-loop-turn
invariant-loop-turn g l = record {
  trim : l.reader.trim ≡ trim.None;
  ready : Ready l.reader;
  config : l.reader.config ≡ default_config;
  between : ends_at_end l.reader.state ≡ false;
  progress : IsProgress (most_records g.K.RowKind.file) l.progress.number l.progress.rows.items;
  left : (y : List ℕ) × ((source_of (λ s. Some s.now) l.reader ≡ Some y)
      × (l._turn + length y ≤ length l.bytes)
      × (rows_of_file (g.K.RowKind.row_of l.kind) (columns_of g.K.RowKind.file) (most_records g.K.RowKind.file) l.bytes
      ≡ rest_of (g.K.RowKind.row_of l.kind) (columns_of g.K.RowKind.file) (most_records g.K.RowKind.file) l.progress.number l.progress.rows.items (left_records l.reader.state y)));
}
