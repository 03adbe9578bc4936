-- A text is refused exactly for its first fault.
use Rattle.std.proofs.Common.{◌≡◌, ℕ, List, [], Option, None, Some, IsSome, Result, Ok, Err, refl}
use Rattle.std.specs.Result.{IsErrOf}
use Rattle.edge_io.specs.Told.{told}
use Rattle.text_lines.specs.FirstFault.{Due, HasFault}
use Rattle.text_lines.specs.Reading.{Fails, FaultHasCause}
use Rattle.text_lines.specs.declared.fault.ReadError.{ReadError}
use Rattle.text_lines.specs.declared.fault.ReadError.TheVariants as errors
use Rattle.text_lines.specs.declared.fault.TextFault.{TextFault}
use Rattle.text_lines.specs.declared.fault.TextFault.TheVariants as faults
use Rattle.text_lines.proofs.FaultLaws.{fault_in}
use Rattle.text_lines.proofs.OneFault.{one_fault}
use Rattle.publication.specs.declared.refusal.ReadRefusal.TheVariants as refusals
use Rattle.publication.specs.Refusals.{IsRefused, ReadAs, RefusedFor, refusal_of, refusal_of_fault}

fault_refused : (due : Due) (bytes : List ℕ) (fault : TextFault) → HasFault due bytes (Some fault) → IsRefused due bytes (refusal_of_fault fault)
fault_refused due bytes faults.Truncated h = h
fault_refused due bytes faults.Trailing h = h
fault_refused due bytes (faults.BadLine number code) h = h

-- an error of reading is a refusal for the fault that reading met
pub error_refused : {A : Type 0} (due : Due) (bytes : List ℕ) (e : ReadError) (read : Result A TextFault) → Fails e read → HasFault due bytes (fault_in read) → IsRefused due bytes (refusal_of e)
error_refused due bytes errors.Memory read fails h = tt
error_refused due bytes errors.ReadFault read fails h = tt
error_refused due bytes (errors.Text fault) read fails h = fault_refused due bytes fault (rw fails at h)

fault_for : (A : Type 0) (fault other : TextFault) → fault ≡ other → RefusedFor {A = A} fault (Err (refusal_of_fault other))
fault_for A fault faults.Truncated e = e
fault_for A fault faults.Trailing e = e
fault_for A fault (faults.BadLine number code) e = e

pub error_for : {A : Type 0} (B : Type 0) (due : Due) (bytes : List ℕ) (e : ReadError) (read : Result A TextFault) (fault : TextFault) → Fails e read → HasFault due bytes (fault_in read) → HasFault due bytes (Some fault) → RefusedFor {A = B} fault (Err (refusal_of e))
error_for B due bytes errors.Memory read fault fails h k = tt
error_for B due bytes errors.ReadFault read fault fails h k = tt
error_for B due bytes (errors.Text other) read fault fails h k =
    let same : Some fault ≡ Some other = one_fault due bytes (Some fault) (Some other) k (rw fails at h) in
    fault_for B fault other (cc same)

-- a text that was read has no fault
pub read_whole : {A B : Type 0} (due : Due) (bytes : List ℕ) (x : A) (read : Result A TextFault) (fault : TextFault) → read ≡ Ok x → HasFault due bytes (fault_in read) → HasFault due bytes (Some fault) → B
read_whole due bytes x read fault is h k =
    let same : Some fault ≡ None = one_fault due bytes (Some fault) None k (rw is at h) in
    absurd (cc same)

-- a text that is read as something isn't refused for a fault
pub not_refused : {A B : Type 0} (view : A → B) (x : B) (e : ReadError) (read : Result B TextFault) → Fails e read → read ≡ Ok x → ReadAs view x (Err (refusal_of e))
not_refused view x errors.Memory read fails is = tt
not_refused view x errors.ReadFault read fails is = tt
not_refused view x (errors.Text fault) read fails is = absurd (cc (fails, is))

-- where a text is refused for its early end, nothing is left of it
pub ended_there : {A B : Type 0} (before now : ℕ) (left : Option (List ℕ)) (e : ReadError) → FaultHasCause {X = A} before now left (Err e) → IsSome left
    → IsErrOf {T = B} (Err (refusal_of e)) refusals.Truncated → told left ≡ []
ended_there before now left errors.Memory cause tells is = absurd (cc)
ended_there before now left errors.ReadFault cause tells is = absurd (cc)
ended_there before now left (errors.Text faults.Truncated) cause tells is = cause.ended tells refl
ended_there before now left (errors.Text faults.Trailing) cause tells is = absurd (cc)
ended_there before now left (errors.Text (faults.BadLine number code)) cause tells is = absurd (cc)
