use Rattle.std.proofs.Common.{◌∙◌}
use Rattle.match_rules.proofs.Holding.{searched-holds}
use Rattle.match_rules.proofs.check.has_place.Goals as goal

pub returns : goal.returns
returns c = c.is_ok.ensures.value ∙ searched-holds c.args.places.now c.args.e _ c.requires c.binary_search.ensures.position
