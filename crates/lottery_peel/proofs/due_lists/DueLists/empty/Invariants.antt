use Rattle.std.proofs.Common.{◌≡◌, length}
use Rattle.lottery_peel.proofs.due_lists.DueLists.empty.Given as goal

-- a list for each ticket so far
abbrev pub invariant-loop : goal.invariant-loop
invariant-loop l = length l.lists.items ≡ l.counter
