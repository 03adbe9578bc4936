use Rattle.std.proofs.Common.{Some}
use Rattle.desk_keeper.specs.Keepers.{IsNext}
use Rattle.keeper_cases.proofs.show_rows_of.Given as goal

abbrev pub invariant-loop-row : goal.invariant-loop-row
invariant-loop-row l = record {
  sure : IsNext (Some l.sure) l.sure_place;
  listed : IsNext (Some l.listed.rows) l.listed_place;
}
