use Rattle.std.proofs.Common.{◌≡◌, ◌∙◌, ℤ, get_or, rules}
use Rattle.std.proofs.lemmas.Int.{to_z-of_z}
use Rattle.std.specs.Fmt.{signed_decimal}
use Rattle.std.specs.Int.{w64, w128}
use Rattle.std.specs.Prelude.{FitsSigned, pos}
use Rattle.publication.proofs.WaitingLaws.{put_more, put_fails, put_all, text_line, lines_are}
use Rattle.publication.proofs.lottery_writing.put_price_lines.Goals as goal

pub returns-in_err-put_signed-clause-puts : goal.returns-in_err-put_signed-clause-puts
returns-in_err-put_signed-clause-puts g c =
    let price : ℤ = get_or c.args.prices.now c.loop-price.price-index (pos 0) in
    let narrow : FitsSigned w64 price = search rules in
    let wide : FitsSigned w128 c.from.result = search rules in
    let is : c.from.result ≡ price = c.from.ensures ∙ to_z-of_z w64 price narrow in
    let puts = rw (to_z-of_z w128 c.from.result wide) at c.in_err-put_signed.ensures.puts in
    rw (lines_are signed_decimal c.args.prices.now)
    (put_fails (text_line signed_decimal) c.args.prices.now c.loop-price.price-index c.from.result (pos 0) _ _ _ _ _ _ _ _ _ c.loop-price-test.true is
    c.loop-price.invariant.front puts c.from_residual.ensures.0)

pub loop-price-preserved : goal.loop-price-preserved
loop-price-preserved g c =
    let price : ℤ = get_or c.args.prices.now c.loop-price.price-index (pos 0) in
    let narrow : FitsSigned w64 price = search rules in
    let wide : FitsSigned w128 c.from.result = search rules in
    let is : c.from.result ≡ price = c.from.ensures ∙ to_z-of_z w64 price narrow in
    let puts = rw (to_z-of_z w128 c.from.result wide) at c.in_ok-put_signed.ensures.puts in
    record {
      front = put_more (text_line signed_decimal) c.args.prices.now c.loop-price.price-index c.from.result (pos 0) _ _ _ _ _ _ _ c.loop-price-test.true is
          c.loop-price.invariant.front puts;
      later = search rules;
    }

pub returns-clause-puts : goal.returns-clause-puts
returns-clause-puts g c =
    rw (lines_are signed_decimal c.args.prices.now)
    (put_all (text_line signed_decimal) c.args.prices.now c.loop-price.price-index _ _ _ _ _ c.loop-price-test.false c.loop-price.invariant.front)
