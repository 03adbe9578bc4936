use Rattle.std.proofs.Common.{rules, sym, ap, ◌∙◌, ◌∷◌, Some}
use Rattle.atomic_table.specs.Table.{rest}
use Rattle.turn_lock.proofs.steps.pick_up.Goals as goal

pub exchange-requires : goal.exchange-requires
exchange-requires g c = let has = c.requires.hand.1 in (search rules, (Some c.requires.hand.0, has ∙ (λ i. (0, Some c.requires.hand.0) ∷ sym (ap rest has) i)))
