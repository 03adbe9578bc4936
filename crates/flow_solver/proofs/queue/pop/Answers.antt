use Rattle.std.proofs.lemmas.List.Sorted.{IsPermutation-sym}
use Rattle.flow_solver.proofs.Members.{Waits-kept, Waits-cases}
use Rattle.flow_solver.proofs.queue.pop.Goals as goal

pub returns-in-Some-clause-kept : goal.returns-in-Some-clause-kept
returns-in-Some-clause-kept c = λ d v waits. Waits-cases _ _ _ d v c.in-Some.ensures.permutation waits

pub returns-in-Some-clause-only : goal.returns-in-Some-clause-only
returns-in-Some-clause-only c = λ d v waits. Waits-kept _ _ _ d v (IsPermutation-sym _ _ c.in-Some.ensures.permutation) waits
