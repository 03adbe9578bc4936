use Rattle.std.proofs.Common.{◌+◌, arith}
use Rattle.http_framing.proofs.DigitLaws.{length_digit, length_front, length_more}
use Rattle.http_framing.proofs.lengths.length_value.Goals as goal

pub overflow_sub-byte : goal.overflow_sub-byte
overflow_sub-byte c = (length_digit c.args.text.now c.loop-byte.byte-index c.requires c.loop-byte-test.true).0

pub returns-then-number-gt-MOST_BODY_BYTES : goal.returns-then-number-gt-MOST_BODY_BYTES
returns-then-number-gt-MOST_BODY_BYTES c =
    let more = length_more c.args.text.now c.loop-byte.byte-index c.requires c.loop-byte-test.true in
    λ le. omega (arith, more, length_front c.args.text.now (c.loop-byte.byte-index + 1), c.loop-byte.invariant.0, c.from.ensures, c.if-number-gt-MOST_BODY_BYTES.true, le)

pub loop-byte-preserved : goal.loop-byte-preserved
loop-byte-preserved c =
    let more = length_more c.args.text.now c.loop-byte.byte-index c.requires c.loop-byte-test.true in
    (omega (arith, more, c.loop-byte.invariant.0, c.from.ensures), omega (arith, c.if-number-gt-MOST_BODY_BYTES.false))
