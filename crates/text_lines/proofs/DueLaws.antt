-- What the line that is due reads as, once the line is known.
use Rattle.std.proofs.Common.{◌≡◌, ℕ, false, List, Result, Ok, Err, refl}
use Rattle.std.proofs.lemmas.Bool.{false_from_ne_true}
use Rattle.std.proofs.lemmas.Str.{IsUtf8-from_is_utf8, is_utf8-from_IsUtf8}
use Rattle.std.specs.Str.{IsUtf8, is_utf8}
use Rattle.text_lines.specs.declared.fault.LineCode.{LineCode}
use Rattle.text_lines.specs.declared.fault.LineCode.TheVariants.{NotUtf8}
use Rattle.text_lines.specs.declared.fault.TextFault.{TextFault}
use Rattle.text_lines.specs.declared.fault.TextFault.TheVariants.{BadLine}
use Rattle.text_lines.specs.declared.fault.ReadError.{ReadError}
use Rattle.text_lines.specs.declared.fault.ReadError.TheVariants as errors
use Rattle.text_lines.specs.Reading.{◌>>=◌, Cursor, Fails, line_at, due, as_text, at_line}

-- an error of a first step is that of the whole
pub bind_fails : {A B : Type 0} (e : ReadError) (r : Result A TextFault) (f : A → Result B TextFault) → Fails e r → Fails e (r >>= f)
bind_fails errors.Memory r f h = tt
bind_fails errors.ReadFault r f h = tt
bind_fails (errors.Text fault) r f h = rw h refl

pub due_fails : {A : Type 0} (read : List ℕ → Result A LineCode) (e : ReadError) (at : Cursor) → Fails e (line_at at) → Fails e (due read at)
unfolding due
due_fails read e at h = bind_fails e (line_at at) (λ line. at_line at.number (as_text read line.0) >>= λ x. Ok (x, line.1)) h

pub due_ok : {A : Type 0} (read : List ℕ → Result A LineCode) (at rest : Cursor) (line : List ℕ) (x : A) → line_at at ≡ Ok (line, rest) → IsUtf8 line → read line ≡ Ok x → due read at ≡ Ok (x, rest)
unfolding due
due_ok read at rest line x there text good = rw (there, is_utf8-from_IsUtf8 line text, good) refl

pub due_bad : {A : Type 0} (read : List ℕ → Result A LineCode) (at rest : Cursor) (line : List ℕ) (code : LineCode) → line_at at ≡ Ok (line, rest) → IsUtf8 line → read line ≡ Err code → due read at ≡ Err (BadLine at.number code)
unfolding due
due_bad read at rest line code there text bad = rw (there, is_utf8-from_IsUtf8 line text, bad) refl

pub due_no_text : {A : Type 0} (read : List ℕ → Result A LineCode) (at rest : Cursor) (line : List ℕ) → line_at at ≡ Ok (line, rest) → ¬ (IsUtf8 line) → due read at ≡ Err (BadLine at.number NotUtf8)
unfolding due
due_no_text read at rest line there other =
    let none : is_utf8 line ≡ false = false_from_ne_true (is_utf8 line) (λ is. other (IsUtf8-from_is_utf8 line is)) in
    rw (there, none) refl
