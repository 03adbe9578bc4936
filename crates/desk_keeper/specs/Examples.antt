-- Words for the worked examples.
use Rattle.std.specs.Prelude.{ℕ, List, codes}
use Rattle.desk_keeper.specs.declared.words.Command.{Command}
use Rattle.desk_keeper.specs.Rows.{row_of}

-- the row of a command of the chair `ann`
unfoldable pub ann : ℕ → Command → List ℕ → List ℕ
ann number command lottery = row_of (record { caller = codes "ann"; number = number; command = command }) lottery
