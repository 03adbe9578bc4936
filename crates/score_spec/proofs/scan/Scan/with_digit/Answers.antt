-- Less than 36 digits are there, so one more fits.
use Rattle.std.proofs.Common.{arith, add-one}
use Rattle.std.proofs.Math.Nat.{pow-suc}
use Rattle.score_spec.proofs.Powers.{ten-pow-le}
use Rattle.score_spec.proofs.scan.Scan.with_digit.Goals as goal

pub overflow_mul-result : goal.overflow_mul-result
overflow_mul-result c = omega (arith, c.requires.small.digits, ten-pow-le c.args.self.count 35 (omega arith))

pub overflow_add-result : goal.overflow_add-result
overflow_add-result c = omega (arith, c.requires.small.digits, ten-pow-le c.args.self.count 35 (omega arith))

pub returns-clause-small : goal.returns-clause-small
returns-clause-small c = record {
  digits = rw (add-one, pow-suc) (omega (arith, c.requires.small.digits));
  count = omega arith;
  scale = c.one_more-scale.ensures.within _ c.requires.small.scale;
  power = c.requires.small.power;
}
