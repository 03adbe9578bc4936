use Rattle.std.proofs.Common.{◌≡◌, ◌<◌, length, get_or, arith, sym, ap, ◌∙◌}
use Rattle.match_rules.specs.Rules.{pair_in, pair_at}
use Rattle.match_rules.specs.Sound.{cap_counted}
use Rattle.match_rules.proofs.Firsts.{first_below-found}
use Rattle.match_rules.proofs.Found.{cap-found}
use Rattle.match_rules.proofs.check.broken_cap.Goals as goal

pub returns-then-counts-e : goal.returns-then-counts-e
returns-then-counts-e c =
    let rules = c.args.rules.now in
    let e = c.loop-e.e in
    let within : e < length rules.pairs = omega arith in
    let cap : c.from.result ≡ (pair_at rules e).cap = c.from.ensures ∙ ap (λ pairs. (pair_in pairs e).cap) c.pairs-pair-items.ensures.value in
    let above : (pair_at rules e).cap < get_or c.args.counts.now e 0 = omega arith in
    sym (first_below-found (length rules.pairs) e (cap_counted rules c.args.counts.now) _ within c.loop-e.invariant
    (cap-found rules c.args.counts.now e above))
