-- The exit status of each ending.
use Rattle.std.specs.Prelude.{ℕ}
use Rattle.matcher_cli.specs.declared.status.Status.{Status}
use Rattle.matcher_cli.specs.declared.status.Status.TheVariants.{Done, Broken, Infeasible, Usage, KeeperFault, Damaged, ReadFault, WriteFault, Refused, Memory}

abbrev pub code_of : Status → ℕ
code_of Done = 0
code_of Broken = 1
code_of Infeasible = 1
code_of Usage = 2
code_of ReadFault = 3
code_of WriteFault = 4
code_of KeeperFault = 5
code_of Refused = 6
code_of Memory = 7
code_of Damaged = 8
