-- The cause of a fault, seen from the call that hands the error on.
use Rattle.std.proofs.Common.{◌≡◌, ℕ, ◌≤◌, List, Option, Result, Err, ap, arith}
use Rattle.std.specs.Result.{IsErrOf}
use Rattle.edge_io.specs.Counts.{Rose}
use Rattle.text_lines.specs.Reading.{FaultHasCause}
use Rattle.text_lines.specs.declared.fault.ReadError.{ReadError}

-- an error is the same whatever the value would have been
same_error : {A B : Type 0} (e other : ReadError) → IsErrOf {T = A} (Err e) other → IsErrOf {T = B} (Err e) other
same_error e other h = let same : e ≡ other = cc in ap Err same

-- a count that rose since later rose since earlier
rose_since : (before mid now : ℕ) → before ≤ mid → Rose mid now → Rose before now
rose_since before mid now le rose = omega (arith, le, rose)

pub cause_goes_on : {A B : Type 0} (before mid now : ℕ) (left : Option (List ℕ)) (e : ReadError) → before ≤ mid → FaultHasCause {X = A} mid now left (Err e) → FaultHasCause {X = B} before now left (Err e)
cause_goes_on before mid now left e le cause = record {
  later = omega (arith, le, cause.later);
  failed = λ fault. rose_since before mid now le (cause.failed (same_error e _ fault));
  ended = λ tells fault. cause.ended tells (same_error e _ fault);
}

pub same_cause : {A B : Type 0} (before now : ℕ) (left : Option (List ℕ)) (e : ReadError) → FaultHasCause {X = A} before now left (Err e) → FaultHasCause {X = B} before now left (Err e)
same_cause before now left e cause = record {
  later = cause.later;
  failed = λ fault. cause.failed (same_error e _ fault);
  ended = λ tells fault. cause.ended tells (same_error e _ fault);
}

pub cause_since : {A : Type 0} (before mid now : ℕ) (left : Option (List ℕ)) (result : Result A ReadError) → before ≤ mid → FaultHasCause mid now left result → FaultHasCause before now left result
cause_since before mid now left result le cause = record {
  later = omega (arith, le, cause.later);
  failed = λ fault. rose_since before mid now le (cause.failed fault);
  ended = cause.ended;
}
