use Rattle.std.proofs.Common.{refl, sym, ap, ◌∙◌}
use Rattle.score_spec.specs.PairTables.{value_of}
use Rattle.score_spec.proofs.TextMaps.{ascend-entries, entries-lent, value-entries}
use Rattle.score_spec.proofs.by_id.ById.get_mut.Goals as goal

pub returns : goal.returns
returns g c =
    let old = c.self.inside.map.entries in (
      (refl, λ w. rw (← c.self.view_is) (entries-lent c.get_mut.result c.args.id.now w old (c.get_mut.follows.lender w).entries c.get_mut.ensures.value c.get_mut.ensures.ordered (c.get_mut.follows.holds w).0), rw c.get_mut.follows.holds-at-none c.self.view_is),
      (c.get_mut.ensures.value ∙ sym (value-entries c.args.id.now old) ∙ ap (λ entries. value_of entries c.args.id.now) c.self.view_is, rw (← c.self.view_is) (ascend-entries old c.get_mut.ensures.ordered)),
    )
