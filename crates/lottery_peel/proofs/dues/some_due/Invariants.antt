use Rattle.std.proofs.Common.{ℕ, ◌<◌, ◌≢◌, length}
use Rattle.std.specs.Prelude.{slice_index}
use Rattle.lottery_peel.proofs.dues.some_due.Given as goal

-- none of those so far is due
abbrev pub invariant-loop-arc : goal.invariant-loop-arc
invariant-loop-arc l = (k : ℕ) → k < l.arc-index → slice_index l.arcs k < length l.dues → slice_index l.dues (slice_index l.arcs k) ≢ l.ticket
