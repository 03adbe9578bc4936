use Rattle.std.proofs.Common.{refl, sym, ap, ◌∙◌, true≢false, is_some, string_bytes}
use Rattle.score_spec.specs.PairTables.{value_of}
use Rattle.score_spec.proofs.TextMaps.{entries-insert, value-entries}
use Rattle.score_spec.proofs.by_id.ById.put.Goals as goal

pub returns-in-Ok-Some-clause-put : goal.returns-in-Ok-Some-clause-put
returns-in-Ok-Some-clause-put g c = rw (c.in-Ok-Some.ensures.entries, ← c.self.view_is) (entries-insert c.self.inside.map.entries c.args.id c.args.value)

pub returns-in-Ok-Some-clause-more : goal.returns-in-Ok-Some-clause-more
returns-in-Ok-Some-clause-more g c =
    let id = string_bytes c.args.id in
    let had = ap (λ entries. value_of entries id) (sym c.self.view_is) ∙ value-entries id c.self.inside.map.entries ∙ sym c.in-Ok-Some.ensures.old ∙ c.in-Ok-Some.field-0-is in
    rw had refl

pub returns-in-Ok-None-clause-put : goal.returns-in-Ok-None-clause-put
returns-in-Ok-None-clause-put g c = rw (c.in-Ok-None.ensures.entries, ← c.self.view_is) (entries-insert c.self.inside.map.entries c.args.id c.args.value)

pub returns-in-Ok-None-clause-more : goal.returns-in-Ok-None-clause-more
returns-in-Ok-None-clause-more g c =
    let id = string_bytes c.args.id in
    let had = ap (λ entries. value_of entries id) (sym c.self.view_is) ∙ value-entries id c.self.inside.map.entries ∙ sym c.in-Ok-None.ensures.old ∙ c.in-Ok-None.field-0-is in
    rw had refl

pub returns-clause-known : goal.returns-clause-known
returns-clause-known g c =
    let id = string_bytes c.args.id in
    let none = ap (λ entries. value_of entries id) (sym c.self.view_is) ∙ value-entries id c.self.inside.map.entries ∙ c.in-Err.ensures.absent in
    λ known. absurd (true≢false (sym known ∙ ap is_some none))
