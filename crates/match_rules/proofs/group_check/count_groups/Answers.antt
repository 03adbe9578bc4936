use Rattle.std.proofs.Common.{◌≤◌, length, arith}
use Rattle.match_rules.specs.Groups.{is_in_group}
use Rattle.match_rules.proofs.Counts.{count-fits}
use Rattle.match_rules.proofs.group_check.count_groups.Goals as goal

pub count_group-requires-clause-fits : goal.count_group-requires-clause-fits
count_group-requires-clause-fits c g h =
    let few : length c.args.rules.now.pairs ≤ 250000 = c.pairs-pairs.ensures.kept.pairs.few in
    let fits = count-fits (length c.args.rules.now.pairs) c.loop-e.e-index (is_in_group c.args.rules.now g) c.args.places.now c.requires.places.ascending c.requires.places.known c.loop-e-test.true few in
    omega (arith, fits, c.loop-e.invariant.each g h)
