use Rattle.std.proofs.Common.{◌≡◌, length, arith}
use Rattle.match_rules.specs.Rules.{locked_places}
use Rattle.match_rules.proofs.making.locked_of.Goals as goal

pub returns : goal.returns
unfolding locked_places
returns c =
    let all : c.loop-e.e ≡ length c.args.pairs.now = omega arith in
    rw (← all) c.loop-e.invariant
