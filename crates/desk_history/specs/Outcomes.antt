-- What jobs come to.
use Rattle.std.specs.Prelude.{ℕ}
use Rattle.match_rules.specs.declared.answer.Answer.{Answer}
use Rattle.match_rules.specs.declared.answer.Answer.TheVariants as answer
use Rattle.match_rules.specs.declared.answer.Level.{Level}
use Rattle.match_rules.specs.declared.answer.Level.TheVariants as level
use Rattle.desk_history.specs.declared.jobs.Grade.{Grade}
use Rattle.desk_history.specs.declared.jobs.Grade.TheVariants as grade
use Rattle.desk_history.specs.declared.jobs.Outcome.{Outcome}
use Rattle.desk_history.specs.declared.jobs.Outcome.TheVariants.{Waiting, Taken, Certified, Infeasible, Stale, OutOfMemory}
use Rattle.desk_history.specs.declared.requests.Work.{Work}
use Rattle.desk_history.specs.declared.requests.Work.TheVariants as work

-- a level without its cut
abbrev pub grade_of : Level → Grade
grade_of level.Unasked = grade.Unasked
grade_of level.Free = grade.Free
grade_of (level.At score cut) = grade.At score

-- what a job with this answer comes to
abbrev pub answered_outcome : Answer → Outcome
answered_outcome (answer.Lottery winning) = Certified (grade_of winning.level) winning.total
answered_outcome (answer.Infeasible blocked) = Infeasible blocked.need blocked.room

abbrev pub worked_outcome : Work → Outcome
worked_outcome (work.Answered certificate) = answered_outcome certificate.answer
worked_outcome work.OutOfMemory = OutOfMemory

-- what happens to a job
pub data Event : Type 0 where
  -- a bench takes it
  Takes : Event
  -- the bench that has it ends it, with this work
  Ends : Work → Event
  -- the bench that has it lets it go
  Releases : Event
  -- an edit makes the edition of this number
  Edits : ℕ → Event
  -- its publish is read back from a row, with this answer
  Reads : Answer → Event

-- what a job comes to by an event: the whole table
abbrev pub after : Event → Outcome → Outcome
after Takes Waiting = Taken
after (Ends made) Taken = worked_outcome made
after Releases Taken = Waiting
after (Edits later) Waiting = Stale later
after (Edits later) Taken = Stale later
after (Reads answer) Waiting = answered_outcome answer
after event outcome = outcome
