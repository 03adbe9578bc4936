use Rattle.std.proofs.Common.{◌≡◌, ◌≢◌, ℕ, ◌<◌, ◌≤◌, length}
use Rattle.std.specs.Prelude.{slice_index}
use Rattle.unit_turns.specs.Steps.{step_at}
use Rattle.lottery_peel.specs.Standing.{Waits}
use Rattle.lottery_peel.proofs.dues.wait_again.Given as goal

-- all wait but the arcs of the steps that are left
abbrev pub invariant-loop-place : goal.invariant-loop-place
invariant-loop-place l = record {
  long : length l.waiting ≡ l.all;
  waits : (a : ℕ) → a < length l.dues → slice_index l.dues a < l.all → ((i : ℕ) → l.place ≤ i → i < length l.steps → (step_at l.steps i).arc ≢ a) → Waits l.waiting (slice_index l.dues a) a;
}
