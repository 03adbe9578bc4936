-- Each turn of the reader takes the next of the records that are left, and a byte or more of the text.
use Rattle.std.proofs.Common.{◌≡◌, ◌∙◌, ℕ, List, [], ◌∷◌, Some, Bor, ap, refl, inl, inr, arith}
use Rattle.std.proofs.lemmas.Result.{err_from_is_err_and}
use Rattle.csv.specs.Reading.{strip_bom}
use Rattle.csv.specs.Records.{fields_of}
use Rattle.bid_import.specs.Files.{rows_of_file}
use Rattle.bid_import.specs.Kinds.{columns_of, most_records}
use Rattle.bid_import.proofs.ColumnTexts.{columns_of-text, most_records-few}
use Rattle.bid_import.specs.RecordLoop.{rest_of}
use Rattle.bid_import.proofs.Streams.{stream-more, stream-end, none-left, strip-shorter, left_records}
use Rattle.bid_import.proofs.Progress.{starts, ends, fails, stops}
use Rattle.bid_import.proofs.records.read_rows.Goals.{else-loop-turn-test, then-loop-turn-test+in-Ok-false}
use Rattle.bid_import.proofs.records.read_rows.Goals as goal

pub loop-turn-init : goal.loop-turn-init
loop-turn-init g c =
    let fr = c.from_reader-reader.ensures in
    let state = fr.state in
    rw c.new-2.ensures.items (record {
      trim = rw (c.flexible.ensures, c.has_headers.ensures) at fr.trim ∙ c.new.ensures.trim;
      ready = inr (inr (rw (c.flexible.ensures, c.has_headers.ensures) at fr.has_headers, fr.headers));
      config = rw (c.flexible.ensures, c.has_headers.ensures) at fr.config ∙ c.new.ensures.config;
      between = rw state refl;
      progress = record { counted = omega arith; few = omega arith; fresh = λ e. refl; bounded = most_records-few g.K.RowKind.file };
      left = (strip_bom c.args.bytes.now, (fr.source, omega (arith, strip-shorter c.args.bytes.now), rw state (starts (g.K.RowKind.row_of c.args.kind.now) (columns_of g.K.RowKind.file) (most_records g.K.RowKind.file) c.args.bytes.now)));
    })

pub unread-requires : goal.unread-requires
unread-requires g c = c.loop-turn.invariant.progress

pub put-requires-clause-progress : goal.put-requires-clause-progress
put-requires-clause-progress g c = c.loop-turn.invariant.progress

pub returns-in-Err : goal.returns-in-Err
returns-in-Err g c =
    let inv = c.loop-turn.invariant in
    let row_of = g.K.RowKind.row_of c.args.kind.now in
    let whole = rows_of_file row_of (columns_of g.K.RowKind.file) (most_records g.K.RowKind.file) c.args.bytes.now in
    let stopped = stops row_of (columns_of g.K.RowKind.file) (most_records g.K.RowKind.file) (λ (s : Bor (List ℕ)). Some s.now) c.loop-turn.reader c.read_record.new.self c.in-Err.error.kind c.loop-turn.progress.number c.loop-turn.progress.rows.items inv.left.0 whole
    (columns_of-text g.K.RowKind.file) inv.progress inv.config inv.between inv.left.1.0 (c.in-Err.ensures.why inv.trim inv.ready) inv.left.1.2 in
    rw c.unread.ensures stopped

pub returns-in_err-put : goal.returns-in_err-put
returns-in_err-put g c =
    let inv = c.loop-turn.invariant in
    let read = rw c.in-Ok-true.field-0-test at (c.in-Ok-true.ensures.reads inv.trim inv.ready) in
    let fields = fields_of c.read_record.new.row in
    let m = stream-more (λ (s : Bor (List ℕ)). Some s.now) c.loop-turn.reader c.read_record.new.self fields inv.left.0 inv.config inv.between inv.left.1.0 read in
    let row_of = g.K.RowKind.row_of c.args.kind.now in
    let columns = columns_of g.K.RowKind.file in
    let most = most_records g.K.RowKind.file in
    let before = rest_of row_of columns most c.loop-turn.progress.number c.loop-turn.progress.rows.items in
    let after = rest_of row_of columns most c.put.new.progress.number c.put.new.progress.rows.items in
    let left = left_records c.read_record.new.self.state m.0 in
    let whole = rows_of_file row_of columns most c.args.bytes.now in
    let so_far : whole ≡ before (fields ∷ left) = inv.left.1.2 ∙ ap before {y = fields ∷ left} m.3 in
    let fault = c.in_err-put.field-0.0 in
    let p = err_from_is_err_and c.from_residual.result c.from_residual.ensures.1 in
    rw (p.1, p.2) (fails row_of columns most fault whole before after fields left c.in_err-put.ensures.goes so_far)

pub loop-turn-preserved : goal.loop-turn-preserved
loop-turn-preserved g c =
    let inv = c.loop-turn.invariant in
    let read = rw c.in-Ok-true.field-0-test at (c.in-Ok-true.ensures.reads inv.trim inv.ready) in
    let fields = fields_of c.read_record.new.row in
    let m = stream-more (λ (s : Bor (List ℕ)). Some s.now) c.loop-turn.reader c.read_record.new.self fields inv.left.0 inv.config inv.between inv.left.1.0 read in
    let row_of = g.K.RowKind.row_of c.args.kind.now in
    let columns = columns_of g.K.RowKind.file in
    let most = most_records g.K.RowKind.file in
    let before = rest_of row_of columns most c.loop-turn.progress.number c.loop-turn.progress.rows.items in
    let left = left_records c.read_record.new.self.state m.0 in
    let so_far : rows_of_file row_of columns most c.args.bytes.now ≡ before (fields ∷ left) = inv.left.1.2 ∙ ap before {y = fields ∷ left} m.3 in
    record {
      trim = read.3 ∙ inv.trim;
      ready = inl (c.in-Ok-true.ensures.ready inv.trim);
      config = read.2 ∙ inv.config;
      between = m.2;
      progress = c.in_ok-put.ensures.kept;
      left = (m.0, (m.1, omega (arith, inv.left.1.1, m.4), so_far ∙ c.in_ok-put.ensures.goes left));
    }

pub returns : goal.returns
returns g c =
    let inv = c.loop-turn.invariant in
    let row_of = g.K.RowKind.row_of c.args.kind.now in
    let before = rest_of row_of (columns_of g.K.RowKind.file) (most_records g.K.RowKind.file) c.loop-turn.progress.number c.loop-turn.progress.rows.items in
    let none : left_records c.loop-turn.reader.state inv.left.0 ≡ [] = elim c.loop-turn-test.branch [
      | else-loop-turn-test w ↦ none-left c.loop-turn.reader.state inv.left.0 inv.between (omega (arith, inv.left.1.1, w.loop-turn-test))
      | then-loop-turn-test+in-Ok-false w ↦
          let read = rw w.in-Ok-false.field-0-test at (w.in-Ok-false.ensures.reads inv.trim inv.ready) in
          stream-end (λ (s : Bor (List ℕ)). Some s.now) c.loop-turn.reader w.read_record.new.self (fields_of w.read_record.new.row) inv.left.0 inv.config inv.left.1.0 read
    ] in
    inv.left.1.2 ∙ ap before none ∙ ends row_of (columns_of g.K.RowKind.file) (most_records g.K.RowKind.file) c.loop-turn.progress.number c.loop-turn.progress.rows.items
