use Rattle.std.proofs.Common.{[]}
use Rattle.desk_reopening.proofs.RowLaws.{opened_legal, replay_rows}
use Rattle.desk_reopening.proofs.laws.reopening_laws.Goals as goal

pub returns-clause-legal : goal.returns-clause-legal
returns-clause-legal c chairs given H opens = opened_legal chairs given H opens

pub returns-clause-rows : goal.returns-clause-rows
returns-clause-rows c given H opens = replay_rows [] given H opens
