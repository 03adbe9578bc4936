use Rattle.std.specs.Prelude.{length}
use Rattle.command_words.proofs.chairs.+are_distinct.Given as goal

abbrev pub decreases-are_distinct : goal.decreases-are_distinct
decreases-are_distinct l = length l.words.now
