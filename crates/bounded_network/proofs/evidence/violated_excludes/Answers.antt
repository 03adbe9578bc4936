use Rattle.bounded_network.proofs.Laws.{none-at_violated}
use Rattle.bounded_network.proofs.ScaledLaws.{none-at_scale}
use Rattle.bounded_network.proofs.evidence.violated_excludes.Goals as goal

pub returns-clause-none : goal.returns-clause-none
returns-clause-none c = λ marks flow broken round. none-at_violated c.args.network.now marks c.arcs-arcs.ensures.kept broken flow round

pub returns-clause-any_scale : goal.returns-clause-any_scale
returns-clause-any_scale c = λ marks scale flow broken some round. none-at_scale c.args.network.now marks scale c.arcs-arcs.ensures.kept broken some flow round
