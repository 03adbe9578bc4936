use Rattle.std.proofs.Common.{◌≡◌, length}
use Rattle.match_rules.proofs.Numbers.{AreFirstFrom}
use Rattle.match_rules.proofs.groups.first_pairs.Given as goal

abbrev pub invariant-loop-e : goal.invariant-loop-e
invariant-loop-e l = record {
  as_long : length l.firsts.items ≡ l.count;
  first : AreFirstFrom l.groups l.e l.firsts.items;
}
