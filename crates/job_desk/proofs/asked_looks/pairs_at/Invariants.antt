use Rattle.std.proofs.Common.{◌≡◌, map, take}
use Rattle.desk_history.specs.Looks.{ids_of}
use Rattle.job_desk.proofs.asked_looks.pairs_at.Given as goal

abbrev pub invariant-loop-place : goal.invariant-loop-place
invariant-loop-place l = l.pairs.items ≡ map (ids_of l.rules) (take l.place-index l.places)
