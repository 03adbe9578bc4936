-- What holds of every history.
use Rattle.std.specs.Prelude.{◌≡◌, ◌≤◌, ℕ, All, Some, ⊤}
use Rattle.desk_history.specs.declared.jobs.Job.{Job}
use Rattle.desk_history.specs.declared.jobs.Outcome.{Outcome}
use Rattle.desk_history.specs.declared.jobs.Outcome.TheVariants.{Waiting, Taken, Certified, Infeasible, Stale, OutOfMemory}
use Rattle.desk_history.specs.declared.replies.Snapshot.{Snapshot}
use Rattle.desk_history.specs.Histories.{History, edits, job_of, jobs}
use Rattle.desk_history.specs.Looks.{rules_at}

-- a fact of a job that was not decided
abbrev pub IfOpen : Outcome → Type 0 → Type 0
IfOpen Waiting P = P
IfOpen Taken P = P
IfOpen (Certified level total) P = ⊤
IfOpen (Infeasible need room) P = ⊤
IfOpen (Stale later) P = ⊤
IfOpen OutOfMemory P = ⊤

-- a job that was not decided is of the present edition
abbrev pub IsPresent : ℕ → Job → Type 0
IsPresent now job = IfOpen job.outcome (job.edition ≡ now)

abbrev pub OpenArePresent : History → Type 0
OpenArePresent H = All (IsPresent (edits H)) (jobs H)

-- what a job has become: it has the same edition and the same mode
abbrev pub IsLaterOf : Job → Job → Type 0
IsLaterOf job later = (later.edition ≡ job.edition) × (later.mode ≡ job.mode)

-- what a bench was given with its job is still right: the job has this edition and this mode, and the rules are those of the edition
pub record IsAtWork (H : History) (given : Snapshot) : Type 0 where
  pub job : Job
  pub there : job_of H given.job ≡ Some job
  pub edition : job.edition ≡ given.edition
  pub mode : job.mode ≡ given.mode
  pub made : given.edition ≤ edits H
  pub rules : given.rules ≡ rules_at H given.edition
