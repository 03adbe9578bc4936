-- The rows of a keeper, which it may tell, and may stop telling.
-- Each clause on the rows stands under the premise that they are told after the call; so they were told before it.
use Rattle.std.specs.Prelude.{◌≡◌, ℕ, ◌≤◌, List, [], ◌∷◌, ◌++◌, length, slice_get, Option, None, Some, IsSome, Result, MatchResult, IfOk, IsErrOf, Vec}
use Rattle.std.specs.Option.{option_map}
use Rattle.std.specs.declared.alloc.Global.{Global}
use Rattle.edge_io.specs.Counts.{Rose}
use Rattle.edge_io.specs.Memory.{CallsSoFar}
use Rattle.desk_keeper.specs.declared.keeper.KeepFault.{KeepFault}
use Rattle.desk_keeper.specs.declared.keeper.KeepFault.TheVariants.{Failed}

-- the rows, or none where they aren't told
abbrev pub told_rows : Option (List (List ℕ)) → List (List ℕ)
told_rows None = []
told_rows (Some rows) = rows

-- where the rows are told they are these
abbrev pub Tells : Option (List (List ℕ)) → List (List ℕ) → Type 0
Tells told rows = IsSome told → told_rows told ≡ rows

-- where the rows are told the place is that of the next one
abbrev pub IsNext : Option (List (List ℕ)) → ℕ → Type 0
IsNext told place = IsSome told → place ≡ length (told_rows told)

-- the row was added, and none at a fault
pub record Appends (old new : Option (List (List ℕ))) (result : Result (Unit {0}) KeepFault) (row : List ℕ) : Type 0 where
  pub untold : IsSome new → IsSome old
  pub rows : IsSome new → MatchResult result (λ _. told_rows new ≡ told_rows old ++ row ∷ []) (λ _. told_rows new ≡ told_rows old)

-- what was found is the row at the place, and no row changed
pub record Reads (old new : Option (List (List ℕ))) (result : Result (Option (Vec ℕ Global)) KeepFault) (place : ℕ) : Type 0 where
  pub untold : IsSome new → IsSome old
  pub same : IsSome new → told_rows new ≡ told_rows old
  pub found : IsSome new → IfOk result (λ row. option_map (λ bytes. bytes.items) row ≡ slice_get (told_rows old) place)

-- the count never falls, and `Failed` comes only where it rose
pub record KeepFails {T : Type 0} (before now : ℕ) (result : Result T KeepFault) : Type 0 where
  pub later : before ≤ now
  pub failed : IsErrOf result Failed → Rose before now

-- a keeper in memory: its rows and its calls
pub record KeeperValue : Type 0 where
  pub rows : List (List ℕ)
  pub calls : CallsSoFar
