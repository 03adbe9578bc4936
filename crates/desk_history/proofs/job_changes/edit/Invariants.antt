use Rattle.std.proofs.Common.{◌≡◌, map, ◌++◌, take, drop}
use Rattle.desk_history.specs.Outcomes.{Edits}
use Rattle.desk_history.specs.Histories.{changed}
use Rattle.desk_history.proofs.job_changes.edit.Given as goal

-- the jobs before this one are changed
abbrev pub invariant-loop-job : goal.invariant-loop-job
invariant-loop-job l = l.job-items ≡ map (changed (Edits l.later)) (take l.job-index l.fn.jobs.items) ++ drop l.job-index l.fn.jobs.items
