use Rattle.std.proofs.Common.{◌≡◌, ℕ, ◌^◌, ◌<◌, List, length, None, Result, Ok, Err, arith}
use Rattle.std.specs.Prelude.{IfOk}
use Rattle.desk_keeper.specs.declared.words.Kept.{Kept}
use Rattle.desk_keeper.specs.declared.words.Named.{Named}
use Rattle.desk_keeper.specs.declared.words.RowFault.{RowFault}
use Rattle.desk_keeper.specs.declared.words.RowFault.TheVariants.{BadRow}
use Rattle.desk_keeper.specs.Rows.{IsRow}
use Rattle.desk_keeper.specs.Reading.{Decodes, kept_in}
use Rattle.desk_keeper.proofs.RowLaws.{row_spells, row_only, row_none}
use Rattle.desk_keeper.proofs.decoding.decode.Goals as goal

found : (row : List ℕ) (r : Result Kept RowFault) → Decodes r (kept_in row) → IfOk r (λ kept. IsRow row kept.named kept.lottery)
found row (Ok kept) d = row_spells row kept d
found row (Err fault) d = tt

only : (row : List ℕ) (r : Result Kept RowFault) → length row < 2 ^ 64 → Decodes r (kept_in row) → IfOk r (λ kept. (named : Named) (lottery : List ℕ) → IsRow row named lottery → (named ≡ kept.named) × (lottery ≡ kept.lottery))
only row (Ok kept) short d = λ named lottery is. row_only row kept named lottery short d is
only row (Err fault) short d = tt

pub returns-clause-found : goal.returns-clause-found
returns-clause-found c = found c.args.row.now c.kept_in.result c.kept_in.ensures

pub returns-clause-only : goal.returns-clause-only
returns-clause-only c =
    let short : length c.args.row.now < 2 ^ 64 = omega arith in
    only c.args.row.now c.kept_in.result short c.kept_in.ensures

pub returns-clause-none : goal.returns-clause-none
returns-clause-none c =
    let short : length c.args.row.now < 2 ^ 64 = omega arith in
    λ bad named lottery is. row_none c.args.row.now named lottery short (none_read c.args.row.now c.kept_in.result bad c.kept_in.ensures) is
  where
    none_read : (row : List ℕ) (r : Result Kept RowFault) → r ≡ Err BadRow → Decodes r (kept_in row) → kept_in row ≡ None
    none_read row r bad d = rw bad at d
