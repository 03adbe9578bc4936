use Rattle.score_spec.proofs.TextMaps.{ascend-entries}
use Rattle.score_spec.proofs.by_id.ById.iter.Goals as goal

pub returns-clause-ascend : goal.returns-clause-ascend
returns-clause-ascend g c = rw (← c.self.view_is) (ascend-entries c.self.inside.map.entries c.iter.ensures.ordered)
