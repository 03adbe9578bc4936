use Rattle.desk_reopening.proofs.RowLaws.{one_kept}
use Rattle.desk_reopening.proofs.rows.command_of.Goals as goal

pub returns-in-Ok : goal.returns-in-Ok
returns-in-Ok c = record { is = c.in-Ok.ensures.found; only = λ other is. one_kept other c.in-Ok.kept (c.in-Ok.ensures.only other.named other.lottery is) }
