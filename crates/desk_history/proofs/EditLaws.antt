-- No more editions than commands.
use Rattle.std.proofs.Common.{◌≤◌, ◌∷◌, [], arith}
use Rattle.desk_keeper.specs.declared.words.Command.TheVariants.{Edit, Submit, Publish, Draw}
use Rattle.desk_history.specs.declared.entries.Entry.TheVariants.{Accepted, Took, Ended, Released}
use Rattle.desk_history.specs.Histories.{History, commands, edits}

pub edits_bound : (H : History) → edits H ≤ commands H
edits_bound [] = omega arith
edits_bound (Accepted caller number (Edit base edit) reply read ∷ H) = let rest : edits H ≤ commands H = edits_bound H in omega arith
edits_bound (Accepted caller number (Submit base mode) reply read ∷ H) = let rest : edits H ≤ commands H = edits_bound H in omega arith
edits_bound (Accepted caller number (Publish job) reply read ∷ H) = let rest : edits H ≤ commands H = edits_bound H in omega arith
edits_bound (Accepted caller number (Draw publication text) reply read ∷ H) = let rest : edits H ≤ commands H = edits_bound H in omega arith
edits_bound (Took bench job ∷ H) = edits_bound H
edits_bound (Ended bench done ∷ H) = edits_bound H
edits_bound (Released bench ∷ H) = edits_bound H
