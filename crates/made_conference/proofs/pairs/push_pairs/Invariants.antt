use Rattle.std.proofs.Common.{◌≡◌, ◌+◌, ◌-◌, ◌*◌, ◌++◌, map}
use Rattle.std.specs.List.{range_with_len}
use Rattle.made_conference.specs.Numbers.{state_after}
use Rattle.made_conference.specs.Pairs.{made_pair}
use Rattle.made_conference.proofs.pairs.push_pairs.Given as goal

abbrev pub ghost-made_pair : goal.ghost-made_pair
ghost-made_pair g a = g.seed

abbrev pub invariant-loop-reviewer : goal.invariant-loop-reviewer
invariant-loop-reviewer g l = record {
  pairs : l.pairs.items ≡ l.fn.pairs.items ++ map (made_pair g.seed l.paper) (range_with_len l.first (l.reviewer - l.first));
  state : l.numbers.state ≡ state_after g.seed (2 * (45 * l.paper + (l.reviewer - l.first)));
}
