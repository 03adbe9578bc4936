-- What is told of a history.
use Rattle.std.specs.Prelude.{◌≡◌, Result, Ok, Err, ⊤}
use Rattle.desk_history.specs.declared.refusals.Refusal.{Refusal}
use Rattle.desk_history.specs.declared.refusals.Refusal.TheVariants.{KeeperFault, Memory}
use Rattle.desk_history.specs.declared.replies.Answered.{Answered}
use Rattle.desk_history.specs.Looks.{Step, refused, told}

-- the answer is that of a step without an entry; or memory is wanting, and the keeper isn't asked
abbrev pub IsTold : Step → Result Answered Refusal → Type 0
IsTold step (Ok reply) = step ≡ told reply
IsTold step (Err Memory) = ⊤
IsTold step (Err KeeperFault) = ⊥
IsTold step (Err refusal) = step ≡ refused refusal
