use Rattle.std.proofs.lemmas.List.Sorted.{IsPermutation-sym}
use Rattle.flow_solver.proofs.Members.{Waits-added, Waits-kept, Waits-cases}
use Rattle.flow_solver.proofs.queue.push.Goals as goal

pub returns-clause-added : goal.returns-clause-added
returns-clause-added c = Waits-added _ _ _ _ c.in_ok-push.ensures.permutation

pub returns-clause-kept : goal.returns-clause-kept
returns-clause-kept c = λ d v waits. Waits-kept _ _ _ d v c.in_ok-push.ensures.permutation waits

pub returns-clause-only : goal.returns-clause-only
returns-clause-only c = λ d v waits. Waits-cases _ _ _ d v (IsPermutation-sym _ _ c.in_ok-push.ensures.permutation) waits
