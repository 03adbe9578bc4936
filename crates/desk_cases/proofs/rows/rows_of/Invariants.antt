use Rattle.std.proofs.Common.{◌≡◌}
use Rattle.desk_cases.proofs.rows.rows_of.Given as goal

abbrev pub invariant-loop-place : goal.invariant-loop-place
invariant-loop-place l = l.keeper.rows ≡ l.fn.keeper.rows
