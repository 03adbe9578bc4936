use Rattle.std.proofs.Common.{◌∙◌, sym, ap}
use Rattle.score_spec.proofs.TextMaps.{value-entries}
use Rattle.score_spec.specs.PairTables.{value_of}
use Rattle.score_spec.proofs.by_id.ById.get.Goals as goal

pub returns : goal.returns
returns g c = c.get.ensures.value ∙ sym (value-entries c.args.id.now c.self.inside.map.entries) ∙ ap (λ entries. value_of entries c.args.id.now) c.self.view_is
