use Rattle.std.proofs.Common.{◌*◌, ◌^◌, ◌≤◌, sym, arith}
use Rattle.std.proofs.Math.Nat.{mul-le-mul}
use Rattle.score_spec.proofs.Powers.{ten-pow-le, ten-pow-pos, magnitude-large}
use Rattle.score_spec.proofs.magnitude.multiplied.Goals as goal

pub returns-then-digits-gt100000-clause-value : goal.returns-then-digits-gt100000-clause-value
returns-then-digits-gt100000-clause-value c =
    let d = c.args.digits in let k = 10 ^ c.args.places in
    let more : d * 1 ≤ d * k = mul-le-mul {n₁ = d} {m₁ = 1} {n₂ = d} {m₂ = k} (omega arith) (ten-pow-pos c.args.places) in
    sym (magnitude-large (d * k) 1 (omega (arith, more)))

pub returns-then-places-gt5-clause-value : goal.returns-then-places-gt5-clause-value
returns-then-places-gt5-clause-value c =
    let d = c.args.digits in let k = 10 ^ c.args.places in
    let more : 1 * 10 ^ 6 ≤ d * k = mul-le-mul {n₁ = 1} {m₁ = 10 ^ 6} {n₂ = d} {m₂ = k} (omega arith) (ten-pow-le 6 c.args.places (omega arith)) in
    sym (magnitude-large (d * k) 1 (omega (arith, more)))
