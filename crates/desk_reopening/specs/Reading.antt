-- What was read of the rows of a keeper.
use Rattle.std.specs.Prelude.{◌≡◌, ℕ, List, length, take, Option, IsSome, Result, Ok, Err, ⊤}
use Rattle.edge_io.specs.Counts.{Rose}
use Rattle.desk_keeper.specs.Keepers.{told_rows}
use Rattle.desk_history.specs.Histories.{History}
use Rattle.desk_history.specs.Opened.{IsDamaged, Opens, Replays}
use Rattle.desk_reopening.specs.Replaying.{IsTheOne}
use Rattle.desk_reopening.specs.declared.faults.OpenFault.{OpenFault}
use Rattle.desk_reopening.specs.declared.faults.OpenFault.TheVariants.{Memory, Keeper, Damaged}

-- the rows are told no later than before, and stay
pub record SameRows (old new : Option (List (List ℕ))) : Type 0 where
  pub untold : IsSome new → IsSome old
  pub same : IsSome new → told_rows new ≡ told_rows old

-- a history alone is that of the rows, none of which is damaged
pub record OpensSoundly (rows : List (List ℕ)) (H : History) : Type 0 where
  pub one : IsTheOne (Opens rows) H
  pub sound : (place : ℕ) → ¬ (IsDamaged rows place)

-- a history is that of the first so many rows of a keeper
pub record IsFront (told : Option (List (List ℕ))) (count : ℕ) (H : History) : Type 0 where
  pub front : List (List ℕ)
  pub counted : length front ≡ count
  pub opens : OpensSoundly front H
  pub tells : IsSome told → take count (told_rows told) ≡ front

-- a history is that of all rows of a keeper
pub record IsWhole (told : Option (List (List ℕ))) (H : History) : Type 0 where
  pub rows : List (List ℕ)
  pub opens : OpensSoundly rows H
  pub tells : IsSome told → told_rows told ≡ rows

-- the row at a place leads on to the next history, or it is damaged
abbrev pub LeadsOn : History → List ℕ → ℕ → Result (Unit {0}) OpenFault → History → Type 0
LeadsOn H row place (Ok done) next = IsTheOne (Replays H row) next
LeadsOn H row place (Err (Damaged at)) next = (at ≡ place) × ((other : History) → ¬ (Replays H row other))
LeadsOn H row place (Err Keeper) next = ⊥
LeadsOn H row place (Err Memory) next = ⊤

-- a fault of the keeper comes where its count rose, and no row is damaged
abbrev pub IsReadFault : ℕ → ℕ → OpenFault → Type 0
IsReadFault before now Memory = ⊤
IsReadFault before now Keeper = Rose before now
IsReadFault before now (Damaged row) = ⊥

-- a fault names the first damaged row
abbrev pub NamesDamage : List (List ℕ) → OpenFault → Type 0
NamesDamage rows Memory = ⊤
NamesDamage rows Keeper = ⊤
NamesDamage rows (Damaged row) = IsDamaged rows row
