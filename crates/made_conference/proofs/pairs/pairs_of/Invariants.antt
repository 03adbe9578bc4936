use Rattle.std.proofs.Common.{◌≡◌, ◌*◌}
use Rattle.std.specs.List.{flat_map, range_with_len}
use Rattle.made_conference.specs.Numbers.{state_after}
use Rattle.made_conference.specs.Pairs.{paper_pairs}
use Rattle.made_conference.proofs.pairs.pairs_of.Given as goal

abbrev pub ghost-push_pairs : goal.ghost-push_pairs
ghost-push_pairs g a = g.seed

abbrev pub invariant-loop-paper : goal.invariant-loop-paper
invariant-loop-paper g l = record {
  pairs : l.pairs.items ≡ flat_map (paper_pairs g.seed) (range_with_len 0 l.paper);
  state : l.numbers.state ≡ state_after g.seed (90 * l.paper);
}
