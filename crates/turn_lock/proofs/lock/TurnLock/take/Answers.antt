use Rattle.std.proofs.Common.{rules, arith, ap, ◌∙◌}
use Rattle.turn_lock.proofs.Hands.{free_idle}
use Rattle.turn_lock.proofs.Takes.{draws_ok}
use Rattle.turn_lock.proofs.lock.TurnLock.take.Goals as goal

pub fetch_add-ticket-requires : goal.fetch_add-ticket-requires
fetch_add-ticket-requires g c =
    let idle = free_idle _ _ (ap (λ p. p.held) c.pass.view_is ∙ c.requires.free) c.pass.invariant.2 in
    let is = c.pass.invariant.0 in
    (search rules, search rules, draws_ok g.V.Grows.past _ _ _ idle.0 (omega arith))
