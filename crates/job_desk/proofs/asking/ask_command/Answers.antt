use Rattle.std.proofs.Common.{◌≡◌, true}
use Rattle.desk_history.specs.Steps.{is_chair}
use Rattle.job_desk.proofs.DeskLaws.{chair_named}
use Rattle.job_desk.proofs.asking.ask_command.Goals as goal

pub command-requires-clause-caller : goal.command-requires-clause-caller
command-requires-clause-caller g c =
    let yes : is_chair c.args.chairs.now.items c.args.named.caller ≡ true = cc in
    chair_named c.args.chairs.now.items c.args.named.caller c.requires.desk.names yes
