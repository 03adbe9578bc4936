-- The scanner keeps the numbers of the spelling that grows beside it, so it gives the same answer.
use Rattle.std.proofs.Common.{◌≡◌, ℕ, ◌+◌, ◌*◌, List, [], ◌∷◌, ◌++◌, length, Option, Some, None, Result, Ok, Err, Bool, true, false, refl, sym, ap, ◌∙◌, arith, length-append, append_assoc, append-nil}
use Rattle.std.specs.Prelude.{if◌then◌else◌, ◌==◌, nat_lt, ◌&&◌}
use Rattle.std.specs.Option.{option_map}
use Rattle.std.specs.Char.{is_digit, digit_value}
use Rattle.std.specs.Str.Parse.{digits_value}
use Rattle.std.proofs.lemmas.Int.Digits.{digits_value_push}
use Rattle.score_spec.specs.declared.scan.Sign.{Sign}
use Rattle.score_spec.specs.declared.scan.Scan.{Scan}
use Rattle.score_spec.specs.declared.numbers.NumberFault.TheVariants.{OutOfRange}
use Rattle.score_spec.specs.Spelling.{Exponent, Spelling, signed}
use Rattle.score_spec.specs.Reading.{only_if, is_exponent_letter, sign_of, is_absent, longer_exponent, longer_mantissa, longer, spell, spell_on, unwritten, is_complete, value_in_range, answer_to, read_as}
use Rattle.score_spec.specs.Scanning.{power_of, scan_of, next_power, next_mantissa, next_scan, scan_on, scan_all, is_whole, scanned_value, scanned_end, scanned_answer, with_sign}

-- a choice of options, mapped
pick : {A B : Type 0} (f : A → B) (c : Bool) (x y : Option A) (v w : Option B) → v ≡ option_map f x → w ≡ option_map f y → (if c then v else w) ≡ option_map f (if c then x else y)
pick f true x y v w p q = p
pick f false x y v w p q = q

keep : {A B : Type 0} (f : A → B) (c : Bool) (x : A) (v : B) → v ≡ f x → only_if c v ≡ option_map f (only_if c x)
keep f true x v p = ap Some p
keep f false x v p = refl

with_each : {A B : Type 0} (f : A → B) (g : Sign → A) (h : Sign → B) (o : Option Sign) → ((sign : Sign) → h sign ≡ f (g sign)) → option_map h o ≡ option_map f (option_map g o)
with_each f g h None e = refl
with_each f g h (Some sign) e = ap Some (e sign)

length_more : (xs : List ℕ) (b : ℕ) → length xs + 1 ≡ length (xs ++ b ∷ [])
length_more xs b = omega (arith, length-append xs (b ∷ []))

next-power : (e : Exponent) (b : ℕ) → next_power (power_of e) b ≡ option_map power_of (longer_exponent e b)
next-power e b =
    let value : digits_value 10 e.digits * 10 + digit_value b ≡ digits_value 10 (e.digits ++ b ∷ []) = sym (digits_value_push 10 e.digits b) in
    let count : length e.digits + 1 ≡ length (e.digits ++ b ∷ []) = length_more e.digits b in
    pick power_of (is_digit b 10) _ _ _ _ (keep power_of (nat_lt (length e.digits) 3) _ _ cc) (pick power_of (is_absent e.sign && (length e.digits == 0)) _ _ _ _ (with_each power_of (λ sign. record e { sign = sign }) (λ sign. record (power_of e) { sign = sign }) (sign_of b) (λ sign. refl)) refl)

abbrev plain : Sign → List ℕ → Option (List ℕ) → Spelling
plain sign whole point = record { sign = sign; whole = whole; point = point; exponent = None }

next-mantissa : (sign : Sign) (whole : List ℕ) (point : Option (List ℕ)) (b : ℕ) → next_mantissa (scan_of (plain sign whole point)) b ≡ option_map scan_of (longer_mantissa (plain sign whole point) b)
next-mantissa sign whole None b =
    let s = plain sign whole None in
    let pointed : List ℕ → Option Scan = λ m. Some (record { sign = sign; digits = digits_value 10 m; count = length m; scale = Some 0; power = None }) in
    let digits : digits_value 10 whole * 10 + digit_value b ≡ digits_value 10 (whole ++ b ∷ []) = sym (digits_value_push 10 whole b) in
    let count : length whole + 1 ≡ length (whole ++ b ∷ []) = length_more whole b in
    pick scan_of (is_digit b 10) _ _ _ _ (keep scan_of (nat_lt (length whole) 36) _ _ cc)
    (pick scan_of (b == 46) _ _ _ _ (ap pointed (sym (append-nil whole)))
    (pick scan_of (is_exponent_letter b) _ _ _ _ (keep scan_of (nat_lt 0 (length whole)) _ _ refl)
    (pick scan_of (is_absent sign && (true && (length whole == 0))) _ _ _ _ (with_each scan_of (λ g. record s { sign = g }) (λ g. record (scan_of s) { sign = g }) (sign_of b) (λ g. refl)) refl)))
next-mantissa sign whole (Some fraction) b =
    let s = plain sign whole (Some fraction) in
    let joined : (whole ++ fraction) ++ b ∷ [] ≡ whole ++ (fraction ++ b ∷ []) = append_assoc whole fraction (b ∷ []) in
    let digits : digits_value 10 (whole ++ fraction) * 10 + digit_value b ≡ digits_value 10 (whole ++ (fraction ++ b ∷ [])) = sym (digits_value_push 10 (whole ++ fraction) b) ∙ ap (λ ds. digits_value 10 ds) joined in
    let count : length (whole ++ fraction) + 1 ≡ length (whole ++ (fraction ++ b ∷ [])) = length_more (whole ++ fraction) b ∙ ap length joined in
    let scale : length fraction + 1 ≡ length (fraction ++ b ∷ []) = length_more fraction b in
    pick scan_of (is_digit b 10) _ _ _ _ (keep scan_of (nat_lt (length (whole ++ fraction)) 36) _ _ cc)
    (pick scan_of (b == 46) _ _ _ _ refl
    (pick scan_of (is_exponent_letter b) _ _ _ _ (keep scan_of (nat_lt 0 (length (whole ++ fraction))) _ _ refl)
    (pick scan_of (is_absent sign && (false && (length (whole ++ fraction) == 0))) _ _ _ _ (with_each scan_of (λ g. record s { sign = g }) (λ g. record (scan_of s) { sign = g }) (sign_of b) (λ g. refl)) refl)))

with_power : (s : Spelling) (o : Option Exponent) → option_map (λ x. record (scan_of s) { power = Some x }) (option_map power_of o) ≡ option_map scan_of (option_map (λ x. record s { exponent = Some x }) o)
with_power s None = refl
with_power s (Some e) = refl

next-by : (sign : Sign) (whole : List ℕ) (point : Option (List ℕ)) (x : Option Exponent) (b : ℕ) → (s : Spelling) → s ≡ record { sign = sign; whole = whole; point = point; exponent = x } → next_scan (scan_of s) b ≡ option_map scan_of (longer s b)
next-by sign whole point None b s e = rw e (next-mantissa sign whole point b)
next-by sign whole point (Some x) b s e =
    let t : Spelling = record { sign = sign; whole = whole; point = point; exponent = Some x } in
    rw e (ap (option_map (λ p. record (scan_of t) { power = Some p })) (next-power x b) ∙ with_power t (longer_exponent x b))

pub next-scan : (s : Spelling) (b : ℕ) → next_scan (scan_of s) b ≡ option_map scan_of (longer s b)
next-scan s b = next-by s.sign s.whole s.point s.exponent b s refl

abbrev numbers_of : Result Spelling ℕ → Result Scan ℕ
numbers_of (Ok s) = Ok (scan_of s)
numbers_of (Err place) = Err place

scan-on : (place : ℕ) (scan : Scan → Result Scan ℕ) (go : Spelling → Result Spelling ℕ) (o : Option Spelling) → ((t : Spelling) → scan (scan_of t) ≡ numbers_of (go t)) → scan_on place scan (option_map scan_of o) ≡ numbers_of (spell_on place go o)
scan-on place scan go None rest = refl
scan-on place scan go (Some t) rest = rest t

scan-all : (place : ℕ) (s : Spelling) (bytes : List ℕ) → scan_all place (scan_of s) bytes ≡ numbers_of (spell place s bytes)
scan-all place s [] = refl
scan-all place s (b ∷ bytes) = rw (next-scan s b) (scan-on place (λ t. scan_all (place + 1) t bytes) (λ t. spell (place + 1) t bytes) (longer s b) (λ t. scan-all (place + 1) t bytes))

ends : (sign : Sign) (t : Bool) (n : ℕ) → with_sign sign (if t then Some n else None) ≡ (if t then Ok (signed sign n) else Err OutOfRange)
ends sign true n = refl
ends sign false n = refl

scanned : (sign : Sign) (whole : List ℕ) (point : Option (List ℕ)) (x : Option Exponent) → let s : Spelling = record { sign = sign; whole = whole; point = point; exponent = x } in (is_whole (scan_of s) ≡ is_complete s) × (scanned_value (scan_of s) ≡ value_in_range s)
scanned sign whole None None = (refl, ends sign _ _)
scanned sign whole None (Some x) = (refl, ends sign _ _)
scanned sign whole (Some f) None = (refl, ends sign _ _)
scanned sign whole (Some f) (Some x) = (refl, ends sign _ _)

scanned-end : (n : ℕ) (r : Result Spelling ℕ) → scanned_end n (numbers_of r) ≡ answer_to n r
scanned-end n (Err place) = refl
scanned-end n (Ok s) =
    let e = scanned s.sign s.whole s.point s.exponent in rw (e.0, e.1) refl

pub scanned-answer : (text : List ℕ) → scanned_answer text ≡ read_as text
unfolding read_as
scanned-answer text = ap (scanned_end (length text)) (scan-all 0 unwritten text) ∙ scanned-end (length text) (spell 0 unwritten text)
