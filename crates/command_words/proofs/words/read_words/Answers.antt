use Rattle.std.proofs.Common.{◌≡◌, ◌∙◌, ℕ, List, map, Some, rules}
use Rattle.std.specs.String.{string_bytes}
use Rattle.command_words.specs.Commands.{command_of}
use Rattle.command_words.proofs.ChairLaws.{session_has_chairs}
use Rattle.command_words.proofs.MakingLaws.{command_fits}
use Rattle.command_words.proofs.words.read_words.Goals as goal

pub returns-in-Some-clause-within : goal.returns-in-Some-clause-within
returns-in-Some-clause-within c =
    let words : List (List ℕ) = map string_bytes c.args.words.now in
    let is : command_of words ≡ Some c.in-Some.command = search rules in
    command_fits words c.in-Some.command is

pub returns-in-Some-clause-chairs : goal.returns-in-Some-clause-chairs
returns-in-Some-clause-chairs c taken =
    let words : List (List ℕ) = map string_bytes c.args.words.now in
    let is : command_of words ≡ Some c.in-Some.command = search rules in
    session_has_chairs words (is ∙ cc)
