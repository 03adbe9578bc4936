use Rattle.std.proofs.lemmas.Bool.Decides.{same_from_decides}
use Rattle.desk_history.specs.SameCommands.{is_same_command}
use Rattle.command_index.proofs.CommandLaws.{same_command}
use Rattle.command_index.proofs.repeats.is_same_command.Goals as goal

pub returns : goal.returns
returns c = same_from_decides c.is_same.result (is_same_command c.args.a.now c.args.b.now) c.is_same.ensures (same_command c.args.a.now c.args.b.now)
