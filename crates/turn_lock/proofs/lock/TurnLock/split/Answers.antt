use Rattle.std.proofs.Common.{rules, ap, ◌∙◌}
use Rattle.turn_lock.proofs.Hands.{free_idle}
use Rattle.turn_lock.proofs.Shares.{splits_ok}
use Rattle.turn_lock.proofs.lock.TurnLock.split.Goals as goal

pub split_seat-seat-requires : goal.split_seat-seat-requires
split_seat-seat-requires g c =
    (search rules, search rules, splits_ok g.V.Grows.past _ _ (free_idle _ _ (ap (λ p. p.held) c.pass.view_is ∙ c.requires.free) c.pass.invariant.2).0)
