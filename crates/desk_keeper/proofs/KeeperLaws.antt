-- Rows that a keeper tells stay those that it was told to keep.
use Rattle.std.proofs.Common.{ℕ, List, [], ◌∷◌, ◌++◌, Option, Ok, Err, ap, ◌∙◌}
use Rattle.desk_keeper.specs.declared.keeper.KeepFault.{KeepFault}
use Rattle.desk_keeper.specs.Keepers.{Tells, Appends}

pub tells_more : (old new : Option (List (List ℕ))) (rows : List (List ℕ)) (row : List ℕ) → Tells old rows → Appends old new (Ok tt) row → Tells new (rows ++ row ∷ [])
tells_more old new rows row tells appends told = appends.rows told ∙ ap (λ (kept : List (List ℕ)). kept ++ row ∷ []) (tells (appends.untold told))

pub tells_still : (old new : Option (List (List ℕ))) (rows : List (List ℕ)) (row : List ℕ) (fault : KeepFault) → Tells old rows → Appends old new (Err fault) row → Tells new rows
tells_still old new rows row fault tells appends told = appends.rows told ∙ tells (appends.untold told)
