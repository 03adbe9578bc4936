-- As many rows as commands.
use Rattle.std.proofs.Common.{◌≡◌, ◌+◌, ◌∷◌, [], length, length-append, ap, refl, ◌∙◌}
use Rattle.desk_history.specs.declared.entries.Entry.TheVariants.{Accepted, Took, Ended, Released}
use Rattle.desk_history.specs.Histories.{History, commands}
use Rattle.desk_history.specs.Rows.{named, row_behind, rows}

pub row_count : (H : History) → length (rows H) ≡ commands H
row_count [] = refl
row_count (Accepted caller number command reply read ∷ H) = length-append (rows H) (row_behind H (named caller number command) read ∷ []) ∙ ap (λ n. n + 1) (row_count H)
row_count (Took bench job ∷ H) = row_count H
row_count (Ended bench done ∷ H) = row_count H
row_count (Released bench ∷ H) = row_count H
