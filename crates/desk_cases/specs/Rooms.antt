-- A desk with its keeper, and what its benches were given.
use Rattle.std.specs.Prelude.{◌≡◌, List, All, Some, Result, Ok, Vec, ⊤}
use Rattle.std.specs.declared.alloc.Global.{Global}
use Rattle.desk_keeper.specs.Keepers.{KeeperValue, Tells}
use Rattle.desk_history.specs.declared.refusals.Refusal.{Refusal}
use Rattle.desk_history.specs.declared.replies.Answered.{Answered}
use Rattle.desk_history.specs.declared.replies.Answered.TheVariants.{Taken}
use Rattle.desk_history.specs.declared.replies.Snapshot.{Snapshot}
use Rattle.desk_history.specs.declared.requests.Work.{Work}
use Rattle.desk_history.specs.declared.requests.Work.TheVariants as work
use Rattle.desk_history.specs.Histories.{History}
use Rattle.desk_history.specs.Laws.{IsAtWork}
use Rattle.desk_history.specs.Rows.{rows}
use Rattle.desk_history.specs.Steps.{IsRight}
use Rattle.job_desk.specs.Desks.{DeskValue}
use Rattle.desk_cases.specs.declared.rooms.Given.{Given}

-- the keeper has the rows of the history, and what the benches were given is at work
pub record IsRoom (desk : DeskValue) (keeper : KeeperValue) (given : Vec Given Global) : Type 0 where
  pub told : Tells (Some keeper.rows) (rows desk.history)
  pub work : All (λ its. IsAtWork desk.history its.snapshot) given.items

-- the rules that were given, and a right answer to them; or want of memory
abbrev pub IsMadeOf : Snapshot → Work → Type 0
IsMadeOf given (work.Answered certificate) = (certificate.rules ≡ given.rules) × IsRight given.rules given.mode certificate.answer
IsMadeOf given work.OutOfMemory = ⊤

-- a fact of what a bench was given, where it was
abbrev pub IfTaken : (Snapshot → Type 0) → Result Answered Refusal → Type 0
IfTaken P (Ok (Taken given)) = P given
IfTaken P other = ⊤
