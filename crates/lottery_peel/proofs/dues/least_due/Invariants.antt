use Rattle.std.proofs.Common.{ℕ, ◌<◌, ◌≤◌, length}
use Rattle.std.specs.Prelude.{slice_index}
use Rattle.lottery_peel.proofs.dues.least_due.Given as goal

-- no count is due at the tickets so far
abbrev pub invariant-loop-ticket : goal.invariant-loop-ticket
invariant-loop-ticket l = (a : ℕ) → a < length l.dues → l.ticket ≤ slice_index l.dues a
