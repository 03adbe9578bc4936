-- What the words of a run ask for.
use Rattle.std.specs.Prelude.{◌≡◌, List, map, None, Some}
use Rattle.std.specs.String.{string_bytes}
use Rattle.std.specs.declared.string.String.{String}
use Rattle.std.specs.declared.alloc.Global.{Global}
use Rattle.command_words.specs.Commands.{command_of}
use Rattle.command_words.specs.declared.words.Command.{Command}

-- the words ask for this command
abbrev pub Asks : List (String Global) → Command → Type 0
Asks words command = command_of (map string_bytes words) ≡ Some command

-- the words are taken in no form
abbrev pub AsksNothing : List (String Global) → Type 0
AsksNothing words = command_of (map string_bytes words) ≡ None
