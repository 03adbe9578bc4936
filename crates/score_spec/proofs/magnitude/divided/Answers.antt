-- The bottom is at most 10 ^ 37, so what is computed fits 128 bits.
use Rattle.std.proofs.Common.{◌^◌, arith}
use Rattle.score_spec.proofs.Powers.{ten-pow-le, ten-pow-pos, magnitude-zero}
use Rattle.score_spec.proofs.magnitude.divided.Goals as goal

pub returns-then-places-gt37-clause-value : goal.returns-then-places-gt37-clause-value
returns-then-places-gt37-clause-value c = magnitude-zero c.args.digits (10 ^ c.args.places) (omega (arith, ten-pow-le 38 c.args.places (omega arith)))

pub pow-bottom-requires : goal.pow-bottom-requires
pow-bottom-requires c = omega (arith, ten-pow-le c.args.places 37 (omega arith))

pub overflow_add-result : goal.overflow_add-result
overflow_add-result c = omega (arith, ten-pow-le c.args.places 37 (omega arith))

pub overflow_mul-result-2 : goal.overflow_mul-result-2
overflow_mul-result-2 c = omega (arith, ten-pow-le c.args.places 37 (omega arith))

pub nonzero_div-result : goal.nonzero_div-result
nonzero_div-result c = omega (arith, ten-pow-pos c.args.places)
