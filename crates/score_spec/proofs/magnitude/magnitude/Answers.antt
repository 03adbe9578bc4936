-- The smaller of the two powers of ten is a common factor.
use Rattle.std.proofs.Common.{◌≡◌, ◌+◌, ◌-◌, ◌*◌, ◌^◌, sym, ap, ◌∙◌, arith}
use Rattle.std.proofs.lemmas.Nat.{pow-add}
use Rattle.std.proofs.Math.Nat.{mul_assoc}
use Rattle.score_spec.specs.Magnitude.{magnitude_of}
use Rattle.score_spec.proofs.Powers.{ten-pow-pos, magnitude-cancel}
use Rattle.score_spec.proofs.magnitude.magnitude.Goals as goal

pub returns-then-gain-loss-clause-value : goal.returns-then-gain-loss-clause-value
returns-then-gain-loss-clause-value c =
    let d = c.args.digits in let gain = c.args.gain in let loss = c.args.loss in
    let split : 10 ^ loss ≡ 10 ^ (loss - gain) * 10 ^ gain =
    let e : loss ≡ loss - gain + gain = omega arith in ap (λ n. 10 ^ n) e ∙ pow-add 10 (loss - gain) gain in
    c.divided.ensures.value ∙ sym (magnitude-cancel d (10 ^ (loss - gain)) (10 ^ gain) (ten-pow-pos gain)) ∙ ap (λ n. magnitude_of (d * 10 ^ gain) n) (sym split)

pub returns-clause-value : goal.returns-clause-value
returns-clause-value c =
    let d = c.args.digits in let gain = c.args.gain in let loss = c.args.loss in
    let split : d * 10 ^ (gain - loss) * 10 ^ loss ≡ d * 10 ^ gain =
    let e : gain ≡ gain - loss + loss = omega arith in
    mul_assoc d (10 ^ (gain - loss)) (10 ^ loss) ∙ ap (λ n. d * n) (sym (ap (λ n. 10 ^ n) e ∙ pow-add 10 (gain - loss) loss)) in
    c.multiplied.ensures.value ∙ sym (magnitude-cancel (d * 10 ^ (gain - loss)) 1 (10 ^ loss) (ten-pow-pos loss)) ∙ ap (λ n. magnitude_of n (1 * 10 ^ loss)) split ∙ ap (λ n. magnitude_of (d * 10 ^ gain) n) (omega arith)
