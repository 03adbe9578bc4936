use Rattle.std.proofs.Common.{rules}
use Rattle.bounded_network.specs.Network.{NetworkValue, IsNetwork}
use Rattle.fair_threshold.specs.Search.{IsUnpriced}
use Rattle.fair_threshold.proofs.UnpricedLaws.{circulations-unpriced, marks-unpriced, unpriced-network}
use Rattle.fair_threshold.proofs.unpriced.without_costs.Goals as goal

pub unreachable-requires : goal.unreachable-requires
unreachable-requires c =
    let free : NetworkValue = record { nodes = c.nodes.result; arcs = c.in_ok-arcs.arcs.items } in
    let is : IsUnpriced c.args.net.now free = search rules in
    let good : IsNetwork free = unpriced-network c.args.net.now free c.nodes.ensures.kept is in
    let clash = c.in-Err.ensures.exact.1 good in
    absurd (cc)

pub returns-clause-circulations : goal.returns-clause-circulations
returns-clause-circulations c =
    let is : IsUnpriced c.args.net.now c.in-Ok.free = search rules in
    λ flow. circulations-unpriced c.args.net.now c.in-Ok.free flow is

pub returns-clause-marks : goal.returns-clause-marks
returns-clause-marks c =
    let is : IsUnpriced c.args.net.now c.in-Ok.free = search rules in
    λ marks. marks-unpriced c.args.net.now c.in-Ok.free marks is
