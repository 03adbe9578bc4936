-- When a report fails.
use Rattle.std.specs.Prelude.{ℕ, ◌≤◌, Result, IsErrOf}
use Rattle.edge_io.specs.Counts.{Rose}
use Rattle.reports.specs.declared.kinds.ReportFault.{ReportFault}
use Rattle.reports.specs.declared.kinds.ReportFault.TheVariants.{WriteFault}

-- the count never falls, and `WriteFault` comes only where it rose
pub record WriteFails {T : Type 0} (before now : ℕ) (result : Result T ReportFault) : Type 0 where
  pub later : before ≤ now
  pub failed : IsErrOf result WriteFault → Rose before now
