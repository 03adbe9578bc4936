use Rattle.desk_laws.specs.Reopened.{AreNames}
use Rattle.desk_cases.proofs.cases.chairs_of.Given as goal

abbrev pub invariant-loop-name : goal.invariant-loop-name
invariant-loop-name l = AreNames l.chairs.items
