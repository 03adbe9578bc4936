use Rattle.std.proofs.Common.{◌≡◌, length, arith}
use Rattle.match_rules.specs.Chosen.{chosen_places}
use Rattle.match_rules.proofs.chosen.places_of.Goals as goal

pub returns : goal.returns
unfolding chosen_places
returns c =
    let all : c.loop-e.e ≡ length c.args.counts.now = omega arith in
    rw (← all) c.loop-e.invariant
