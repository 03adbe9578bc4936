-- A refusal that is due is that of the step.
use Rattle.std.proofs.Common.{Option, ap}
use Rattle.desk_history.specs.declared.refusals.Refusal.{Refusal}
use Rattle.desk_history.specs.declared.refusals.Refusal.TheVariants.{KeeperFault, Memory}
use Rattle.desk_history.specs.Looks.{Step}
use Rattle.desk_history.specs.Refusals.{IsDue}
use Rattle.desk_history.specs.Steps.{Explains, refused_or}

pub due_explains : (due : Option Refusal) (step : Step) (refusal : Refusal) → IsDue due refusal → Explains (refused_or due step) refusal
due_explains due step Memory is = tt
due_explains due step KeeperFault is = absurd is
due_explains due step refusal is = ap (λ (o : Option Refusal). (refused_or o step).reply) is
