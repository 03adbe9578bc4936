use Rattle.std.proofs.Common.{◌<◌, ◌||◌, ◌==◌, length, slice_index, arith, sym}
use Rattle.match_rules.proofs.Firsts.{first_below-found}
use Rattle.match_rules.specs.declared.breaks.Break.TheVariants.{Below}
use Rattle.publication.specs.Checks.{below_break, may_share}
use Rattle.publication.proofs.LevelLaws.{found-where}
use Rattle.publication.proofs.threshold_checking.broken_below.Goals as goal

pub returns-then-below : goal.returns-then-below
returns-then-below c =
    let rules = c.args.rules.now in
    let e = c.loop-e.e in
    let within : e < length rules.pairs = omega arith in
    sym (first_below-found (length rules.pairs) e (below_break rules c.args.level.now c.args.shares.now) (Below e) within c.loop-e.invariant
    (found-where (may_share rules c.args.level.now e || (slice_index c.args.shares.now e == 0)) (Below e) c.is_below-below.result c.is_below-below.ensures c.if-below.true))
