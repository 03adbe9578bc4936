-- What the bench of a session was given.
use Rattle.std.specs.Prelude.{◌≡◌, ℕ, Option, None, Some, Result, Ok, Err, ⊤}
use Rattle.desk_history.specs.declared.refusals.Refusal.{Refusal}
use Rattle.desk_history.specs.declared.replies.Answered.{Answered}
use Rattle.desk_history.specs.declared.replies.Answered.TheVariants.{Taken}
use Rattle.desk_history.specs.declared.replies.Snapshot.{Snapshot}
use Rattle.desk_history.specs.declared.requests.Work.{Work}
use Rattle.desk_history.specs.declared.requests.Work.TheVariants as work
use Rattle.desk_history.specs.Histories.{History, held}
use Rattle.desk_history.specs.Laws.{IsAtWork}
use Rattle.desk_history.specs.Steps.{IsRight}

-- bench 0 has the job of the snapshot, which is still right; without one it has no job
abbrev pub IsGiven : History → Option Snapshot → Type 0
IsGiven H None = held H 0 ≡ None
IsGiven H (Some given) = (held H 0 ≡ Some given.job) × IsAtWork H given

-- what was given last
abbrev pub given_after : Option Snapshot → Result Answered Refusal → Option Snapshot
given_after before (Ok (Taken given)) = Some given
given_after before other = before

-- the rules that were given, and a right answer to them; or memory was wanting
abbrev pub IsMadeOf : Snapshot → Work → Type 0
IsMadeOf given (work.Answered certificate) = (certificate.rules ≡ given.rules) × IsRight given.rules given.mode certificate.answer
IsMadeOf given work.OutOfMemory = ⊤

-- the job and what was made of it; without one it is job 0, for which memory was wanting
abbrev pub IsHandedIn : Option Snapshot → ℕ → Work → Type 0
IsHandedIn None job done = (job ≡ 0) × (done ≡ work.OutOfMemory)
IsHandedIn (Some given) job done = (job ≡ given.job) × IsMadeOf given done
