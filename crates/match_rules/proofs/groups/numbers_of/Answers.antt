use Rattle.std.proofs.Common.{arith}
use Rattle.match_rules.proofs.Ascending.{all_present, only_present, few_present}
use Rattle.match_rules.proofs.groups.numbers_of.Goals as goal

pub returns : goal.returns
returns c = record {
  few = omega (arith, few_present c.args.codes.now c.in_ok-numbers.numbers.items c.in_ok-numbers.ensures, c.distinct_numbers.ensures.few);
  ascending = c.distinct_numbers.ensures.ascending;
  all = λ x h. c.distinct_numbers.ensures.kept x (all_present c.args.codes.now c.in_ok-numbers.numbers.items c.in_ok-numbers.ensures x h);
  only = λ x h. only_present c.args.codes.now c.in_ok-numbers.numbers.items c.in_ok-numbers.ensures x (c.distinct_numbers.ensures.only x h);
}
