use Rattle.std.proofs.Common.{◌≡◌, ◌∙◌, sym, true, false}
use Rattle.std.specs.Prelude.{◌==◌, ◌&&◌}
use Rattle.csv.specs.Records.{fields_of}
use Rattle.bid_import.specs.Files.{is_header}
use Rattle.bid_import.specs.Kinds.{columns_of, most_records}
use Rattle.bid_import.proofs.Progress.{adds, skips}
use Rattle.bid_import.proofs.Texts.{all-text}
use Rattle.bid_import.proofs.records.put.Goals as goal

pub returns-clause-goes : goal.returns-clause-goes
returns-clause-goes g c =
    let fields = fields_of c.args.found.now in
    let other : (c.args.progress.now.number == 0) && is_header (columns_of g.K.RowKind.file) fields ≡ false = sym c.is_skipped-skipped.ensures ∙ c.if-skipped.false in
    let both = adds (g.K.RowKind.row_of c.args.kind.now) (columns_of g.K.RowKind.file) (most_records g.K.RowKind.file) c.add.result c.args.progress.now.number c.args.progress.now.rows.items c.add.new.progress.rows.items fields (all-text fields c.requires.text) c.requires.progress other c.add.ensures.added in
    rw c.add.ensures.number both.0

pub returns-then-skipped-clause-goes : goal.returns-then-skipped-clause-goes
returns-then-skipped-clause-goes g c =
    let fields = fields_of c.args.found.now in
    let first : (c.args.progress.now.number == 0) && is_header (columns_of g.K.RowKind.file) fields ≡ true = sym c.is_skipped-skipped.ensures ∙ c.if-skipped.true in
    (skips (g.K.RowKind.row_of c.args.kind.now) (columns_of g.K.RowKind.file) (most_records g.K.RowKind.file) c.args.progress.now.number c.args.progress.now.rows.items fields c.requires.progress first).0
