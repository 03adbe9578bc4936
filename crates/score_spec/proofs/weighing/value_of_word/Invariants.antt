use Rattle.std.proofs.Common.{◌≡◌, drop}
use Rattle.score_spec.specs.Scores.{value_of_word}
use Rattle.score_spec.proofs.weighing.value_of_word.Given as goal

abbrev pub invariant-loop-bid : goal.invariant-loop-bid
invariant-loop-bid l = value_of_word (drop l.bid-index l.words) l.word ≡ value_of_word l.words l.word
