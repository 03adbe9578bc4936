use Rattle.std.proofs.Common.{◌∙◌, ap}
use Rattle.made_conference.specs.Numbers.{next_state}
use Rattle.made_conference.proofs.PairLaws.{pair_is, state_behind}
use Rattle.made_conference.proofs.pairs.made_pair.Goals as goal

pub returns-clause-pair : goal.returns-clause-pair
returns-clause-pair g c =
    let second = rw c.draw-first.ensures.state at c.draw-second.ensures.number in
    rw c.picked_bid.ensures (pair_is g.seed c.args.paper c.args.reviewer _ _ _ c.requires c.draw-first.ensures.number second)

pub returns-clause-state : goal.returns-clause-state
returns-clause-state g c =
    c.draw-second.ensures.state ∙ ap next_state c.draw-first.ensures.state ∙ state_behind g.seed _ _ c.requires
