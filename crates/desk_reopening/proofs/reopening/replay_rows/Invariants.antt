use Rattle.std.proofs.Common.{◌≤◌}
use Rattle.desk_history.specs.Courses.{AreKept, history_of}
use Rattle.desk_reopening.specs.Editions.{EditionsMakeRules}
use Rattle.desk_reopening.specs.Numbers.{AreNumbersOf}
use Rattle.desk_reopening.specs.Reading.{IsFront, SameRows}
use Rattle.desk_reopening.proofs.reopening.replay_rows.Given as goal

-- the rows before this place are replayed
abbrev pub invariant-loop-place : goal.invariant-loop-place
invariant-loop-place g l = record {
  kept : AreKept l.entries l.tables;
  numbers : AreNumbersOf (history_of l.entries) l.numbers;
  editions : EditionsMakeRules (history_of l.entries);
  front : IsFront (g.P.Keeper.rows l.keeper) l.place (history_of l.entries);
  same : SameRows (g.P.Keeper.rows l.fn.keeper) (g.P.Keeper.rows l.keeper);
  later : g.P.Keeper.faults l.fn.keeper ≤ g.P.Keeper.faults l.keeper;
}
