use Rattle.std.proofs.Common.{◌≡◌, ℕ, ◌<◌, length}
use Rattle.std.specs.Prelude.{slice_index}
use Rattle.lottery_peel.specs.Standing.{IsStanding, MultipleAt, TightAt, rest_of}
use Rattle.lottery_peel.proofs.settling.settle_all.Given as goal

-- the amounts of the list so far are settled, and the others are as they were
abbrev pub invariant-loop-place : goal.invariant-loop-place
invariant-loop-place l = record {
  stands : IsStanding l.rules l.left (rest_of l.rules l.left l.initial.standing) l.standing;
  long : length l.standing.net.arcs ≡ length l.initial.standing.net.arcs;
  tight : (a : ℕ) → TightAt l.rules.tickets l.left l.initial.standing a → TightAt l.rules.tickets l.left l.standing a;
  multiples : (j : ℕ) → j < length l.arcs → MultipleAt l.rules.tickets l.left l.standing (slice_index l.arcs j);
  settled : (j : ℕ) → j < l.place → TightAt l.rules.tickets l.left l.standing (slice_index l.arcs j);
}
