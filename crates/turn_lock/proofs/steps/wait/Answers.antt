use Rattle.std.proofs.Common.{rules, ap, ◌∙◌}
use Rattle.turn_lock.proofs.Takes.{looks_ok}
use Rattle.turn_lock.proofs.steps.wait.Goals as goal

pub load-served-requires : goal.load-served-requires
load-served-requires g c = (search rules, search rules, looks_ok g.V.Grows.past _ _ _ c.args.ticket (ap (λ m. m.0.stage) c.loop.invariant.1 ∙ c.requires.waits))
