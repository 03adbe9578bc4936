-- The answer to a text, computed: the spelling grows by a byte at a time for as long as a value text may run on so.
use Rattle.std.specs.Prelude.{ℕ, ◌+◌, ◌*◌, Bool, true, false, ◌==◌, ◌&&◌, ◌||◌, nat_lt, nat_le, if◌then◌else◌, ℤ, List, [], ◌∷◌, ◌++◌, length, Option, Some, None, is_none, Result, Ok, Err}
use Rattle.std.specs.Option.{option_map}
use Rattle.std.specs.Char.{is_digit}
use Rattle.score_spec.specs.declared.scan.Sign.{Sign}
use Rattle.score_spec.specs.declared.scan.Sign.TheVariants.{Absent, Plus, Minus}
use Rattle.score_spec.specs.declared.numbers.NumberFault.{NumberFault}
use Rattle.score_spec.specs.declared.numbers.NumberFault.TheVariants.{BadNumber, OutOfRange}
use Rattle.score_spec.specs.Magnitude.{rounded}
use Rattle.score_spec.specs.Spelling.{Exponent, Spelling, mantissa, top, bottom, signed}

-- a value where the test holds
abbrev pub only_if : {A : Type 0} → Bool → A → Option A
only_if true x = Some x
only_if false x = None

abbrev pub is_exponent_letter : ℕ → Bool
is_exponent_letter b = (b == 101) || (b == 69)

-- the sign that a byte writes
abbrev pub sign_of : ℕ → Option Sign
sign_of b = if b == 43 then Some Plus else (if b == 45 then Some Minus else None)

abbrev pub is_absent : Sign → Bool
is_absent Absent = true
is_absent Plus = false
is_absent Minus = false

-- the spelling of the empty text
abbrev pub unwritten : Spelling
unwritten = record { sign = Absent; whole = []; point = None; exponent = None }

abbrev pub with_digit : Option (List ℕ) → Spelling → ℕ → Spelling
with_digit None s b = record s { whole = s.whole ++ b ∷ [] }
with_digit (Some digits) s b = record s { point = Some (digits ++ b ∷ []) }

-- an exponent with a byte more
abbrev pub longer_exponent : Exponent → ℕ → Option Exponent
longer_exponent e b =
    if is_digit b 10 then only_if (nat_lt (length e.digits) 3) (record e { digits = e.digits ++ b ∷ [] })
    else (if is_absent e.sign && (length e.digits == 0) then option_map (λ sign. record e { sign = sign }) (sign_of b) else None)

-- a spelling without exponent, with a byte more
abbrev pub longer_mantissa : Spelling → ℕ → Option Spelling
longer_mantissa s b =
    if is_digit b 10 then only_if (nat_lt (length (mantissa s)) 36) (with_digit s.point s b)
    else (if b == 46 then only_if (is_none s.point) (record s { point = Some [] })
    else (if is_exponent_letter b then only_if (nat_lt 0 (length (mantissa s))) (record s { exponent = Some (record { letter = b; sign = Absent; digits = [] }) })
    else (if is_absent s.sign && (is_none s.point && (length (mantissa s) == 0)) then option_map (λ sign. record s { sign = sign }) (sign_of b) else None)))

abbrev pub longer_by : Option Exponent → Spelling → ℕ → Option Spelling
longer_by None s b = longer_mantissa s b
longer_by (Some e) s b = option_map (λ x. record s { exponent = Some x }) (longer_exponent e b)

-- the spelling with a byte more, where a value text may run on so
abbrev pub longer : Spelling → ℕ → Option Spelling
longer s b = longer_by s.exponent s b

abbrev pub spell_on : ℕ → (Spelling → Result Spelling ℕ) → Option Spelling → Result Spelling ℕ
spell_on place go_on None = Err place
spell_on place go_on (Some s) = go_on s

-- the spelling after these bytes, or the place of the first with which no value text runs on
abbrev pub spell : ℕ → Spelling → List ℕ → Result Spelling ℕ
spell place s [] = Ok s
spell place s (b ∷ bytes) = spell_on place (λ t. spell (place + 1) t bytes) (longer s b)

abbrev pub has_exponent_digits : Option Exponent → Bool
has_exponent_digits None = true
has_exponent_digits (Some e) = nat_lt 0 (length e.digits)

-- nothing is missing
abbrev pub is_complete : Spelling → Bool
is_complete s = nat_lt 0 (length (mantissa s)) && has_exponent_digits s.exponent

abbrev pub value_in_range : Spelling → Result ℤ NumberFault
value_in_range s = if nat_le (top s) (100000 * bottom s) then Ok (signed s.sign (rounded (top s) (bottom s))) else Err OutOfRange

abbrev pub answer_to : ℕ → Result Spelling ℕ → Result ℤ NumberFault
answer_to length (Err place) = Err (BadNumber place)
answer_to length (Ok s) = if is_complete s then value_in_range s else Err (BadNumber length)

-- the value in ten-thousandths of a text, or its fault
unfoldable pub read_as : List ℕ → Result ℤ NumberFault
read_as text = answer_to (length text) (spell 0 unwritten text)
