-- What a command repeats, where one of its caller and number was accepted.
use Rattle.std.specs.Prelude.{ℕ, if◌then◌else◌, Option, Some, None}
use Rattle.desk_keeper.specs.declared.words.Command.{Command}
use Rattle.desk_history.specs.declared.entries.Entry.{Entry}
use Rattle.desk_history.specs.declared.entries.Entry.TheVariants.{Accepted}
use Rattle.desk_history.specs.Histories.{Earlier}
use Rattle.desk_history.specs.SameCommands.{is_same_command}
use Rattle.command_index.specs.declared.repeats.Repeat.{Repeat}
use Rattle.command_index.specs.declared.repeats.Repeat.TheVariants.{Same, Other}

-- the same command has its reply, and another one names the accepted one
abbrev pub repeat_by : Earlier → Command → Repeat
repeat_by earlier command = if is_same_command earlier.command command then Same earlier.reply else Other earlier.place

abbrev pub repeat_of : Option Earlier → Command → Option Repeat
repeat_of None command = None
repeat_of (Some earlier) command = Some (repeat_by earlier command)

-- the command that an entry accepted, which has this place among the accepted ones
abbrev pub accepted_by : ℕ → Option Entry → Option Earlier
accepted_by place None = None
accepted_by place (Some (Accepted by its command reply read)) = Some (record { place = place; command = command; reply = reply })
accepted_by place (Some other) = None
