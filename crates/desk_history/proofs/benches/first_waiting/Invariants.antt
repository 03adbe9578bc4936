use Rattle.std.proofs.Common.{◌≡◌, ◌+◌, drop}
use Rattle.desk_history.specs.Steps.{first_waiting}
use Rattle.desk_history.proofs.benches.first_waiting.Given as goal

-- no job before this place waits
abbrev pub invariant-loop-place : goal.invariant-loop-place
invariant-loop-place l = first_waiting 1 l.jobs ≡ first_waiting (l.place + 1) (drop l.place l.jobs)
