use Rattle.std.proofs.Common.{sym, ◌∙◌}
use lib.Pointwise.{bytes_decides}
use Rattle.score_spec.proofs.TextMaps.{last-tested}
use Rattle.score_spec.proofs.by_id.ById.is_last.Goals as goal

pub returns-in-Some : goal.returns-in-Some
returns-in-Some g c =
    let decides = bytes_decides c.as_str.result.now c.args.id.now in
    rw (← c.self.view_is) (last-tested c.args.id.now c.self.inside.map.entries c.in-Some.last.now c.in-Some.field-0-1.now c.eq.result c.in-Some.ensures.last
    (λ yes. sym c.as_str.ensures.value ∙ decides.0 (sym c.eq.ensures ∙ yes), λ same. c.eq.ensures ∙ decides.1 (c.as_str.ensures.value ∙ same)))
