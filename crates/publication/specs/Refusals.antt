-- Why a text is refused: its first fault, want of memory, or a source that failed.
use Rattle.std.specs.Prelude.{◌≡◌, ℕ, List, Some, Result, Ok, Err}
use Rattle.text_lines.specs.FirstFault.{Due, HasFault}
use Rattle.text_lines.specs.declared.fault.ReadError.{ReadError}
use Rattle.text_lines.specs.declared.fault.ReadError.TheVariants as errors
use Rattle.text_lines.specs.declared.fault.TextFault.{TextFault}
use Rattle.text_lines.specs.declared.fault.TextFault.TheVariants as faults
use Rattle.publication.specs.declared.refusal.ReadRefusal.{ReadRefusal}
use Rattle.publication.specs.declared.refusal.ReadRefusal.TheVariants as refusals

-- the refusal of a fault
abbrev pub refusal_of_fault : TextFault → ReadRefusal
refusal_of_fault faults.Truncated = refusals.Truncated
refusal_of_fault faults.Trailing = refusals.Trailing
refusal_of_fault (faults.BadLine number code) = refusals.BadLine number code

-- the refusal of an error
abbrev pub refusal_of : ReadError → ReadRefusal
refusal_of errors.Memory = refusals.Memory
refusal_of errors.ReadFault = refusals.ReadFault
refusal_of (errors.Text fault) = refusal_of_fault fault

-- a refusal of the bytes names their first fault
abbrev pub IsRefused : Due → List ℕ → ReadRefusal → Type 0
IsRefused due bytes refusals.Memory = Unit {0}
IsRefused due bytes refusals.ReadFault = Unit {0}
IsRefused due bytes refusals.Truncated = HasFault due bytes (Some faults.Truncated)
IsRefused due bytes (refusals.BadLine number code) = HasFault due bytes (Some (faults.BadLine number code))
IsRefused due bytes refusals.Trailing = HasFault due bytes (Some faults.Trailing)

-- bytes with a first fault are refused for it, unless memory ran out or the source failed
abbrev pub RefusedFor : {A : Type 0} → TextFault → Result A ReadRefusal → Type 0
RefusedFor fault (Ok x) = ⊥
RefusedFor fault (Err refusals.Memory) = Unit {0}
RefusedFor fault (Err refusals.ReadFault) = Unit {0}
RefusedFor fault (Err refusals.Truncated) = fault ≡ faults.Truncated
RefusedFor fault (Err (refusals.BadLine number code)) = fault ≡ faults.BadLine number code
RefusedFor fault (Err refusals.Trailing) = fault ≡ faults.Trailing

-- the result is this value, unless memory ran out or the source failed
abbrev pub ReadAs : {A B : Type 0} → (A → B) → B → Result A ReadRefusal → Type 0
ReadAs view value (Ok x) = view x ≡ value
ReadAs view value (Err refusals.Memory) = Unit {0}
ReadAs view value (Err refusals.ReadFault) = Unit {0}
ReadAs view value (Err refusals.Truncated) = ⊥
ReadAs view value (Err (refusals.BadLine number code)) = ⊥
ReadAs view value (Err refusals.Trailing) = ⊥
