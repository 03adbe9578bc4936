-- The entries of a desk with their tables, and what a call does to them.
use Rattle.std.specs.Prelude.{◌≡◌, ℕ, ◌+◌, ◌≤◌, List, [], ◌∷◌, reverse, Option, Some, None, Result, Ok, Err, Vec, vec_capacity, vec_len}
use Rattle.std.specs.declared.alloc.Global.{Global}
use Rattle.desk_history.specs.declared.entries.Entry.{Entry}
use Rattle.desk_history.specs.declared.jobs.Job.{Job}
use Rattle.desk_history.specs.declared.refusals.Refusal.{Refusal}
use Rattle.desk_history.specs.declared.refusals.Refusal.TheVariants.{BenchEmpty}
use Rattle.desk_history.specs.declared.requests.Work.{Work}
use Rattle.desk_history.specs.declared.replies.Answered.{Answered}
use Rattle.desk_history.specs.declared.tables.Tables.{Tables}
use Rattle.desk_history.specs.Histories.{History, held, job_of, jobs}
use Rattle.desk_history.specs.Looks.{Step, refused}
use Rattle.desk_history.specs.Steps.{Explains, finish_step, first_waiting, take_step, with_entry}
use Rattle.desk_history.specs.Tables.{AreTables}

-- entries in the order of time are a history, which has the newest one first
abbrev pub history_of : Vec Entry Global → History
history_of entries = reverse entries.items

-- how many benches have a job
abbrev pub full : List (Option ℕ) → ℕ
full [] = 0
full (None ∷ benches) = full benches
full (Some job ∷ benches) = full benches + 1

-- the tables are those of the entries, and there is room for the end of each job that a bench has
pub record AreKept (entries : Vec Entry Global) (tables : Tables) : Type 0 where
  pub are : AreTables (history_of entries) tables
  pub room : vec_len entries + full tables.benches ≤ vec_capacity entries

-- the reply and the history are those of the step; or a refusal that it explains, and the history as it was
abbrev pub Does : Step → History → Result Answered Refusal → History → Type 0
Does step H (Ok reply) next = (step.reply ≡ Ok reply) × (next ≡ with_entry step.entry H)
Does step H (Err refusal) next = Explains step refusal × (next ≡ H)

-- the job that a bench takes, or why it takes none
abbrev pub IsTakable : History → ℕ → Result (ℕ × Job) Refusal → Type 0
IsTakable H bench (Ok found) = (held H bench ≡ None) × (first_waiting 1 (jobs H) ≡ Some found)
IsTakable H bench (Err refusal) = Explains (take_step H bench) refusal

-- the job that a bench ends, where the bench has it; without it the end is refused
abbrev pub IsEndable : History → ℕ → ℕ → Option Job → Type 0
IsEndable H bench number None = (done : Work) → finish_step H bench number done ≡ refused BenchEmpty
IsEndable H bench number (Some job) = (held H bench ≡ Some number) × (job_of H number ≡ Some job)
