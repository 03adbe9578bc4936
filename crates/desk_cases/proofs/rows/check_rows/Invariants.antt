use Rattle.std.proofs.Common.{◌≤◌}
use Rattle.desk_cases.proofs.rows.check_rows.Given as goal

abbrev pub invariant-loop-row : goal.invariant-loop-row
invariant-loop-row l = l.lotteries ≤ l.row-index
