use Rattle.std.specs.Prelude.{length}
use Rattle.command_words.proofs.chairs.+are_names.Given as goal

abbrev pub decreases-are_names : goal.decreases-are_names
decreases-are_names l = length l.words.now
