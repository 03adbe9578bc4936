use Rattle.std.proofs.Common.{sym, subst, ap, ◌∙◌, List, [], ◌∷◌, ◌++◌, Option, Some}
use Rattle.atomic_table.specs.Table.{opening}
use Rattle.turn_lock.specs.Rule.{Kept, first_view}
use Rattle.turn_lock.proofs.Ends.{opens_ok}
use Rattle.turn_lock.proofs.lock.TurnLock.new.Goals as goal

pub new-requires : goal.new-requires
new-requires g c =
    let value = c.args.value in
    let items = c.in_default.ensures.items ∙ ap (λ xs. xs ++ Some value ∷ []) c.new-slots.ensures.items in
    let told = c.of-about.ensures in
    subst (λ (z : List (Option g.row.V.Denot) × g.row.V.Denot). Kept g.V.Grows.past (opening (c.length-length.result ∷ 0 ∷ 0 ∷ []) z.0 (first_view (g.V.Grows.past z.1)))) (λ i. (sym items i, sym told i))
    (opens_ok g.V.Grows.past value c.length-length.result c.length-length.ensures.length)
