use Rattle.std.proofs.Common.{◌≡◌, length, drop}
use Rattle.score_spec.proofs.PaperSums.{SumsTo}
use Rattle.score_spec.proofs.paper_scores.parts_of.Given as goal

abbrev pub invariant-loop-source : goal.invariant-loop-source
invariant-loop-source l = record {
  count : length l.parts.items ≡ l.source-index;
  sums : SumsTo l.spec.words l.scores l.paper l.parts.items (drop l.source-index l.spec.sources) l.spec.sources;
}
