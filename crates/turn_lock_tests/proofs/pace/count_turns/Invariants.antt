use Rattle.std.proofs.Common.{◌≡◌, None}
use Rattle.turn_lock_tests.proofs.pace.count_turns.Given as goal

abbrev pub invariant-loop : goal.invariant-loop
invariant-loop g l = (l.pass.lock ≡ l.initial.pass.lock) × (l.pass.held ≡ None)
