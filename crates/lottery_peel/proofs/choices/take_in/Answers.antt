use Rattle.std.proofs.Common.{ℕ, List, Err, sym, subst}
use Rattle.lottery_peel.specs.Choices.{IsTakenIn}
use Rattle.lottery_peel.proofs.ChoiceLaws.{found-at, in-inserted}
use Rattle.lottery_peel.proofs.choices.take_in.Goals as goal

pub returns-in_ok-insert-in-Err : goal.returns-in_ok-insert-in-Err
returns-in_ok-insert-in-Err c =
    let xs : List ℕ = c.args.places.now.items in
    let found = found-at xs c.args.place (Err c.in-Err.at) c.requires (rw c.deref.ensures.value at c.in-Err.ensures.position) in
    subst (λ ys. IsTakenIn xs c.args.place ys) (sym c.in_ok-insert-in-Err.ensures.items) (in-inserted xs c.in-Err.at c.args.place c.requires found.0 found.1 found.2)
