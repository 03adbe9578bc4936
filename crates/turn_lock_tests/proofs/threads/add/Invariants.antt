use Rattle.std.proofs.Common.{◌≡◌, None}
use Rattle.turn_lock_tests.proofs.threads.add.Given as goal

abbrev pub invariant-loop-entry : goal.invariant-loop-entry
invariant-loop-entry g l = (l.pass.lock ≡ l.initial.pass.lock) × (l.pass.held ≡ None)
