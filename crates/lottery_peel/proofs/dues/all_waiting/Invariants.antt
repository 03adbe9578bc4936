use Rattle.std.proofs.Common.{◌≡◌, ℕ, ◌<◌, length}
use Rattle.std.specs.Prelude.{slice_index}
use Rattle.lottery_peel.specs.Standing.{Waits}
use Rattle.lottery_peel.proofs.dues.all_waiting.Given as goal

-- those so far wait
abbrev pub invariant-loop-arc : goal.invariant-loop-arc
invariant-loop-arc l = record {
  long : length l.waiting ≡ l.all;
  waits : (a : ℕ) → a < l.arc → slice_index l.dues a < l.all → Waits l.waiting (slice_index l.dues a) a;
}
