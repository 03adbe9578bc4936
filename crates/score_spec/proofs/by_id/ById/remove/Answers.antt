use Rattle.std.proofs.Common.{◌∙◌}
use Rattle.score_spec.proofs.TextMaps.{entries-remove, value-entries}
use Rattle.score_spec.proofs.by_id.ById.remove.Goals as goal

pub returns-clause-removed : goal.returns-clause-removed
returns-clause-removed g c = rw (c.remove.ensures.entries, ← c.self.view_is) (entries-remove c.args.id.now c.self.inside.map.entries)

pub returns-clause-none : goal.returns-clause-none
returns-clause-none g c = value-entries c.args.id.now c.remove.new.self.entries ∙ c.remove.ensures.updates.1
