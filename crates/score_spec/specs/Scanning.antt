-- What the scanner keeps of an unfinished spelling, and its steps.
use Rattle.std.specs.Prelude.{ℕ, ◌+◌, ◌*◌, ◌^◌, ◌<◌, ◌≤◌, Bool, true, ◌==◌, ◌&&◌, nat_lt, if◌then◌else◌, ℤ, List, [], ◌∷◌, length, Option, Some, None, is_none, IfSome, Result, Ok, Err}
use Rattle.std.specs.Option.{option_map}
use Rattle.std.specs.Char.{is_digit, digit_value}
use Rattle.std.specs.Str.Parse.{digits_value}
use Rattle.score_spec.specs.declared.scan.Sign.{Sign}
use Rattle.score_spec.specs.declared.scan.Sign.TheVariants.{Absent}
use Rattle.score_spec.specs.declared.scan.Power.{Power}
use Rattle.score_spec.specs.declared.scan.Scan.{Scan}
use Rattle.score_spec.specs.declared.numbers.NumberFault.{NumberFault}
use Rattle.score_spec.specs.declared.numbers.NumberFault.TheVariants.{BadNumber, OutOfRange}
use Rattle.score_spec.specs.Magnitude.{magnitude_of}
use Rattle.score_spec.specs.Spelling.{Exponent, Spelling, mantissa, raised_by, lowered_by, signed}
use Rattle.score_spec.specs.Reading.{only_if, is_exponent_letter, sign_of, is_absent}

abbrev pub power_of : Exponent → Power
power_of e = record { sign = e.sign; value = digits_value 10 e.digits; count = length e.digits }

-- the numbers that are kept of a spelling
abbrev pub scan_of : Spelling → Scan
scan_of s = record { sign = s.sign; digits = digits_value 10 (mantissa s); count = length (mantissa s); scale = option_map length s.point; power = option_map power_of s.exponent }

abbrev pub unwritten_scan : Scan
unwritten_scan = record { sign = Absent; digits = 0; count = 0; scale = None; power = None }

abbrev pub next_power : Power → ℕ → Option Power
next_power p b =
    if is_digit b 10 then only_if (nat_lt p.count 3) (record p { value = p.value * 10 + digit_value b; count = p.count + 1 })
    else (if is_absent p.sign && (p.count == 0) then option_map (λ sign. record p { sign = sign }) (sign_of b) else None)

abbrev pub next_mantissa : Scan → ℕ → Option Scan
next_mantissa s b =
    if is_digit b 10 then only_if (nat_lt s.count 36) (record s { digits = s.digits * 10 + digit_value b; count = s.count + 1; scale = option_map (λ n. n + 1) s.scale })
    else (if b == 46 then only_if (is_none s.scale) (record s { scale = Some 0 })
    else (if is_exponent_letter b then only_if (nat_lt 0 s.count) (record s { power = Some (record { sign = Absent; value = 0; count = 0 }) })
    else (if is_absent s.sign && (is_none s.scale && (s.count == 0)) then option_map (λ sign. record s { sign = sign }) (sign_of b) else None)))

abbrev pub next_by : Option Power → Scan → ℕ → Option Scan
next_by None s b = next_mantissa s b
next_by (Some p) s b = option_map (λ x. record s { power = Some x }) (next_power p b)

abbrev pub next_scan : Scan → ℕ → Option Scan
next_scan s b = next_by s.power s b

abbrev pub scan_on : ℕ → (Scan → Result Scan ℕ) → Option Scan → Result Scan ℕ
scan_on place go_on None = Err place
scan_on place go_on (Some s) = go_on s

-- the numbers kept after these bytes, or the place of the first that may not stand there
abbrev pub scan_all : ℕ → Scan → List ℕ → Result Scan ℕ
scan_all place s [] = Ok s
scan_all place s (b ∷ bytes) = scan_on place (λ t. scan_all (place + 1) t bytes) (next_scan s b)

pub record IsSmallPower (p : Power) : Type 0 where
  pub value : p.value < 10 ^ p.count
  pub count : p.count < 4

-- the numbers fit their types
pub record IsSmall (s : Scan) : Type 0 where
  pub digits : s.digits < 10 ^ s.count
  pub count : s.count < 37
  pub scale : IfSome s.scale (λ n. n ≤ s.count)
  pub power : IfSome s.power IsSmallPower

abbrev pub has_power_digits : Option Power → Bool
has_power_digits None = true
has_power_digits (Some p) = nat_lt 0 p.count

abbrev pub is_whole : Scan → Bool
is_whole s = nat_lt 0 s.count && has_power_digits s.power

abbrev pub gain_of : Option Power → ℕ
gain_of None = 0
gain_of (Some p) = raised_by p.sign p.value

abbrev pub loss_of : Option Power → ℕ
loss_of None = 0
loss_of (Some p) = lowered_by p.sign p.value

abbrev pub scale_of : Option ℕ → ℕ
scale_of None = 0
scale_of (Some n) = n

abbrev pub with_sign : Sign → Option ℕ → Result ℤ NumberFault
with_sign sign None = Err OutOfRange
with_sign sign (Some n) = Ok (signed sign n)

abbrev pub scanned_value : Scan → Result ℤ NumberFault
scanned_value s = with_sign s.sign (magnitude_of (s.digits * 10 ^ (4 + gain_of s.power)) (10 ^ (scale_of s.scale + loss_of s.power)))

abbrev pub scanned_end : ℕ → Result Scan ℕ → Result ℤ NumberFault
scanned_end length (Err place) = Err (BadNumber place)
scanned_end length (Ok s) = if is_whole s then scanned_value s else Err (BadNumber length)

-- the answer that the scanner gives
abbrev pub scanned_answer : List ℕ → Result ℤ NumberFault
scanned_answer text = scanned_end (length text) (scan_all 0 unwritten_scan text)
