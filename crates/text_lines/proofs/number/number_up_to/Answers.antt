use Rattle.std.proofs.Common.{◌+◌, arith}
use Rattle.text_lines.proofs.NumberLaws.{canonical_digit, value_more, value_front}
use Rattle.text_lines.proofs.number.number_up_to.Goals as goal

pub overflow_sub-byte : goal.overflow_sub-byte
overflow_sub-byte c = (canonical_digit c.args.text.now c.loop-byte.byte-index c.requires c.loop-byte-test.true).0

pub returns-in_err-checked_mul : goal.returns-in_err-checked_mul
returns-in_err-checked_mul c =
    let more = value_more c.args.text.now c.loop-byte.byte-index c.requires c.loop-byte-test.true in
    rw c.from_residual.ensures (λ le. c.in_err-checked_mul.ensures (omega (arith, more, value_front c.args.text.now (c.loop-byte.byte-index + 1), c.loop-byte.invariant.0, le, c.ranges.most.fits)))

pub returns-in_err-number : goal.returns-in_err-number
returns-in_err-number c =
    let more = value_more c.args.text.now c.loop-byte.byte-index c.requires c.loop-byte-test.true in
    let tens = c.in_ok-checked_mul.ensures in
    rw c.from_residual-in_err-number.ensures (λ le. c.in_err-number.ensures (omega (arith, more, value_front c.args.text.now (c.loop-byte.byte-index + 1), c.loop-byte.invariant.0, tens.1, c.from-digit.ensures, le, c.ranges.most.fits)))

pub returns-then-number-most : goal.returns-then-number-most
returns-then-number-most c =
    let more = value_more c.args.text.now c.loop-byte.byte-index c.requires c.loop-byte-test.true in
    let tens = c.in_ok-checked_mul.ensures in
    let sum = c.in_ok-number.ensures in
    λ le. omega (arith, more, value_front c.args.text.now (c.loop-byte.byte-index + 1), c.loop-byte.invariant.0, tens.1, sum.1, c.from-digit.ensures, c.if-number-most.true, le)

pub loop-byte-preserved : goal.loop-byte-preserved
loop-byte-preserved c =
    let more = value_more c.args.text.now c.loop-byte.byte-index c.requires c.loop-byte-test.true in
    let tens = c.in_ok-checked_mul.ensures in
    let sum = c.in_ok-number.ensures in
    (omega (arith, more, c.loop-byte.invariant.0, tens.1, sum.1, c.from-digit.ensures), omega (arith, c.if-number-most.false))
