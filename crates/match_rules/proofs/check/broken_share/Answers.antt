use Rattle.std.proofs.Common.{◌<◌, length, refl, arith, sym}
use Rattle.match_rules.specs.Sound.{share_counted}
use Rattle.match_rules.proofs.Firsts.{first_below-found}
use Rattle.match_rules.proofs.Found.{share-found}
use Rattle.match_rules.proofs.check.broken_share.Goals as goal

pub returns-then-counted-printed : goal.returns-then-counted-printed
returns-then-counted-printed c =
    let within : c.loop-e.e < length c.args.counts.now = omega arith in
    sym (first_below-found (length c.args.counts.now) c.loop-e.e (share_counted c.args.shares.now c.args.counts.now) _ within c.loop-e.invariant
    (share-found c.args.shares.now c.args.counts.now c.loop-e.e c.from-printed.result _ c.from-printed.ensures refl c.if-counted-printed.true))
