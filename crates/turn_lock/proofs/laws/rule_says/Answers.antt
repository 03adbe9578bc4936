use Rattle.turn_lock.proofs.Says as law
use Rattle.turn_lock.proofs.laws.rule_says.Goals as goal

pub returns : goal.returns
returns g c = law.rule_says g.V.Grows.past
