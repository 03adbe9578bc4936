use Rattle.desk_keeper.proofs.NameLaws.{chair_is}
use Rattle.desk_keeper.proofs.RowLaws.{row_one}
use Rattle.desk_keeper.proofs.laws.row_laws.Goals as goal

pub returns-clause-chairs : goal.returns-clause-chairs
returns-clause-chairs c = chair_is

pub returns-clause-one : goal.returns-clause-one
returns-clause-one c = row_one
