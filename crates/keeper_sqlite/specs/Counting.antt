-- The count of faults after a call.
use Rattle.std.specs.Prelude.{ℕ, Result, Ok, Err}
use Rattle.edge_io.specs.Memory.{one_more}
use Rattle.desk_keeper.specs.declared.keeper.KeepFault.{KeepFault}
use Rattle.desk_keeper.specs.declared.keeper.KeepFault.TheVariants.{Failed, Memory}

-- want of memory isn't counted
abbrev pub count_with : ℕ → KeepFault → ℕ
count_with count Failed = one_more count
count_with count Memory = count

-- one more where the call failed, and else the same
abbrev pub count_after : {T : Type 0} → ℕ → Result T KeepFault → ℕ
count_after count (Ok x) = count
count_after count (Err fault) = count_with count fault
