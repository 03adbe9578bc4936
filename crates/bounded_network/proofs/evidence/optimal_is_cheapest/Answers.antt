use Rattle.bounded_network.proofs.Laws.{cheapest-at_optimal}
use Rattle.bounded_network.proofs.evidence.optimal_is_cheapest.Goals as goal

pub returns : goal.returns
returns c = λ flow potentials round best. cheapest-at_optimal c.args.network.now flow potentials c.arcs-arcs.ensures.kept round best
