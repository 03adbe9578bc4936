use Rattle.std.proofs.Common.{ℕ, List, Err, Ok, sym, subst}
use Rattle.lottery_peel.specs.Choices.{IsTakenOut}
use Rattle.lottery_peel.proofs.ChoiceLaws.{found-at, out-already, out-removed}
use Rattle.lottery_peel.proofs.choices.take_out.Goals as goal

pub returns-in-Ok : goal.returns-in-Ok
returns-in-Ok c =
    let xs : List ℕ = c.args.places.now.items in
    let found = found-at xs c.args.place (Ok c.in-Ok.at) c.requires (rw c.deref.ensures.value at c.in-Ok.ensures.position) in
    subst (λ ys. IsTakenOut xs c.args.place ys) (sym c.remove.ensures.items) (out-removed xs c.in-Ok.at c.args.place c.requires found.0 found.1)

pub returns-in-Err : goal.returns-in-Err
returns-in-Err c =
    let xs : List ℕ = c.args.places.now.items in
    let found = found-at xs c.args.place (Err c.in-Err.field-0) c.requires (rw c.deref.ensures.value at c.in-Err.ensures.position) in
    out-already xs c.in-Err.field-0 c.args.place c.requires found.1 found.2
