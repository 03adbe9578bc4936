-- A canonical text is the decimal text of its number, and each number has one.
use Rattle.std.proofs.Common.{◌≡◌, ℕ, zero, suc, ◌+◌, ◌-◌, ◌*◌, ◌^◌, ◌<◌, ◌≤◌, Bool, true, false, cond, eqb, List, [], ◌∷◌, length, get_or, take, ℤ, pos, negsuc, neg_ℤ, ◌≤ℤ◌, inl, inr, refl, sym, ap, subst, ◌∙◌, arith, rules}
use Rattle.std.specs.Char.{digit_value, is_ascii_digit}
use Rattle.std.specs.List.{list_all}
use Rattle.std.specs.Str.{all_ascii_digits}
use Rattle.std.specs.Str.Parse.{AllDigits, digits_value}
use Rattle.std.specs.Prelude.{decimal, nat_abs}
use Rattle.std.specs.Fmt.{signed_decimal}
use Rattle.std.proofs.lemmas.Bool.{eqb-true, eqb-false, eq-eqb, ne_eqb, false≢true, cases_eq}
use Rattle.std.proofs.lemmas.Fmt.{decimal-digits_value, digits_decimal, digits_value-decimal, decimal_nonempty, decimal_digit, first_decimal}
use Rattle.std.proofs.lemmas.Int.{ints}
use lib.Signed.{mag}
use Rattle.std.proofs.lemmas.Int.Digits.{digits_value_more}
use Rattle.std.proofs.lemmas.Str.Parse.{IsNumeralModel, numerals_by_value, tells_all_ascii_digits, digit_at, digits_value-take-le}
use Rattle.text_lines.specs.Numbers.{is_canonical, is_canonical_signed, is_negative_canonical, value, signed_value, size}

pub numerals : IsNumeralModel (λ ds. all_ascii_digits ds ≡ true) (digits_value 10)
numerals = numerals_by_value _ tells_all_ascii_digits

pub same_digits : (ds : List ℕ) → list_all is_ascii_digit ds ≡ all_ascii_digits ds
same_digits [] = refl
same_digits (d ∷ ds) = rw (same_digits ds) refl

-- a canonical text is digits, of which there is one or more, and a zero stands at its front only alone
pub record IsNumber (ds : List ℕ) : Type 0 where
  pub digits : all_ascii_digits ds ≡ true
  pub some : 0 < length ds
  pub leading : get_or ds 0 0 ≡ 48 → length ds ≡ 1

zero_digit : (d : ℕ) → d ≡ 48 → all_ascii_digits (d ∷ []) ≡ true
zero_digit d e = rw e refl

number_by : (z : Bool) (d : ℕ) (ds : List ℕ) → eqb d 48 ≡ z → cond z (eqb (length ds) 0) (all_ascii_digits (d ∷ ds)) ≡ true → IsNumber (d ∷ ds)
number_by true d [] e h = record { digits = zero_digit d (eqb-true d 48 e); some = omega arith; leading = λ _. refl }
number_by true d (x ∷ ds) e h = absurd (omega (arith, eqb-true (length (x ∷ ds)) 0 h))
number_by false d ds e h = record { digits = h; some = omega arith; leading = λ same. absurd (cc (rw same at e)) }

pub canonical_number : (ds : List ℕ) → is_canonical ds ≡ true → IsNumber ds
canonical_number [] h = absurd cc
canonical_number (d ∷ ds) h = number_by (eqb d 48) d ds refl (subst (λ b. cond (eqb d 48) (eqb (length ds) 0) b ≡ true) (same_digits (d ∷ ds)) h)

pub canonical_digits : (ds : List ℕ) → is_canonical ds ≡ true → AllDigits 10 ds
canonical_digits ds h = numerals.to ds (canonical_number ds h).digits

-- each digit of a canonical text
pub canonical_digit : (ds : List ℕ) (i : ℕ) → is_canonical ds ≡ true → i < length ds → (48 ≤ get_or ds i 0) × (get_or ds i 0 ≤ 57)
canonical_digit ds i h lt = digit_at ds i (canonical_digits ds h) lt

-- what one more digit adds
pub value_more : (ds : List ℕ) (i : ℕ) → is_canonical ds ≡ true → i < length ds → value (take (i + 1) ds) ≡ value (take i ds) * 10 + (get_or ds i 0 - 48)
value_more ds i h lt =
    let r = canonical_digit ds i h lt in
    digits_value_more 10 ds i lt ∙ ap (λ d. value (take i ds) * 10 + d) (digit_is (get_or ds i 0) r.0 r.1)
  where
    digit_is : (c : ℕ) → 48 ≤ c → c ≤ 57 → digit_value c ≡ c - 48
    digit_is c low high = search (rules)

pub value_front : (ds : List ℕ) (i : ℕ) → value (take i ds) ≤ value ds
value_front ds i = digits_value-take-le 10 ds i (omega arith)

-- ---- numbers and their texts

-- a canonical text is the decimal text of its number
pub number_takes : (ds : List ℕ) → is_canonical ds ≡ true → value ds < 2 ^ 64 → ds ≡ decimal (value ds)
number_takes ds h small =
    let is = canonical_number ds h in
    sym (decimal-digits_value numerals ds is.digits is.some is.leading small)

-- ... and the decimal text of a number is canonical
canonical_from : (ds : List ℕ) → all_ascii_digits ds ≡ true → 0 < length ds → (get_or ds 0 0 ≡ 48 → length ds ≡ 1) → is_canonical ds ≡ true
canonical_from [] digits some leading = absurd (omega arith)
canonical_from (d ∷ ds) digits some leading = by_first (eqb d 48) refl
  where
    by_first : (z : Bool) → eqb d 48 ≡ z → is_canonical (d ∷ ds) ≡ true
    by_first true e = rw e (eq-eqb (length ds) 0 (omega (arith, leading (eqb-true d 48 e))))
    by_first false e = rw e (same_digits (d ∷ ds) ∙ digits)

decimal_leading : (n : ℕ) → n < 2 ^ 64 → get_or (decimal n) 0 0 ≡ 48 → length (decimal n) ≡ 1
decimal_leading zero small e = ap length (decimal_digit 0 (omega arith))
decimal_leading (suc n) small e = absurd (omega (arith, first_decimal (suc n) (omega arith) small, e))

pub number_again : (n : ℕ) → n < 2 ^ 64 → (is_canonical (decimal n) ≡ true) × (value (decimal n) ≡ n)
number_again n small =
    (canonical_from (decimal n) (digits_decimal numerals n small) (decimal_nonempty n small) (decimal_leading n small), digits_value-decimal numerals n small)

-- ---- signed numbers and their texts

-- a canonical number is a canonical signed one
signed_of : (ds : List ℕ) → is_canonical ds ≡ true → (is_canonical_signed ds ≡ true) × (signed_value ds ≡ pos (value ds)) × (size ds ≡ value ds)
signed_of [] h = absurd cc
signed_of (d ∷ ds) h =
    let digit = canonical_digit (d ∷ ds) 0 h (omega arith) in
    let other : eqb d 45 ≡ false = ne_eqb d 45 (omega (arith, digit.0)) in
    (rw other h, rw other refl, rw other refl)

negative_first : (ds : List ℕ) → is_negative_canonical ds ≡ true → (is_canonical ds ≡ true) × (get_or ds 0 0 ≡ 48 → ⊥)
negative_first [] h = absurd cc
negative_first (d ∷ ds) h = by_first (eqb d 48) refl
  where
    by_first : (z : Bool) → eqb d 48 ≡ z → (is_canonical (d ∷ ds) ≡ true) × (d ≡ 48 → ⊥)
    by_first true e = absurd (false≢true (rw e at h))
    by_first false e = (rw e (rw e at h), λ same. eqb-false d 48 e same)

negative_from : (ds : List ℕ) → is_canonical ds ≡ true → (get_or ds 0 0 ≡ 48 → ⊥) → is_negative_canonical ds ≡ true
negative_from [] h first = absurd cc
negative_from (d ∷ ds) h first =
    let other : eqb d 48 ≡ false = ne_eqb d 48 first in
    rw other (rw other at h)

negative_is : (n : ℕ) (ds : List ℕ) → value ds ≡ n → 0 < n → ds ≡ decimal (value ds) → 45 ∷ ds ≡ signed_decimal (neg_ℤ (pos (value ds)))
negative_is zero ds e some same = absurd (omega arith)
negative_is (suc n) ds e some same = rw e (ap (λ (t : List ℕ). 45 ∷ t) (same ∙ ap decimal e))

pub signed_takes : (ds : List ℕ) → is_canonical_signed ds ≡ true → size ds < 2 ^ 63 → ds ≡ signed_decimal (signed_value ds)
signed_takes [] h small = absurd cc
signed_takes (b ∷ bs) h small = by_first (eqb b 45) refl
  where
    not_zero : (ds : List ℕ) → is_negative_canonical ds ≡ true → value ds < 2 ^ 63 → 0 < value ds
    not_zero ds neg low =
        let first = negative_first ds neg in
        elim (cases_eq (value ds) 0) [
          | inl none ↦ absurd (first.1 (ap (λ (t : List ℕ). get_or t 0 0) (number_takes ds first.0 (omega arith) ∙ ap decimal none ∙ decimal_digit 0 (omega arith))))
          | inr other ↦ omega (arith, other)
        ]

    by_first : (z : Bool) → eqb b 45 ≡ z → b ∷ bs ≡ signed_decimal (signed_value (b ∷ bs))
    by_first true e =
        let neg : is_negative_canonical bs ≡ true = rw e at h in
        let low : value bs < 2 ^ 63 = rw e at small in
        let first = negative_first bs neg in
        rw e (ap (λ (d : ℕ). d ∷ bs) (eqb-true b 45 e) ∙ negative_is (value bs) bs refl (not_zero bs neg low) (number_takes bs first.0 (omega arith)))
    by_first false e =
        let whole : is_canonical (b ∷ bs) ≡ true = rw e at h in
        let low : value (b ∷ bs) < 2 ^ 63 = rw e at small in
        rw e (number_takes (b ∷ bs) whole (omega arith))

pub signed_again : (z : ℤ) → mag z < 2 ^ 63 → (is_canonical_signed (signed_decimal z) ≡ true) × (signed_value (signed_decimal z) ≡ z) × (size (signed_decimal z) ≡ nat_abs z)
signed_again (pos n) small =
    let again = number_again n (omega arith) in
    let s = signed_of (decimal n) again.0 in
    (s.0, s.1 ∙ ap pos again.1, s.2 ∙ again.1)
signed_again (negsuc n) small =
    let again = number_again (suc n) (omega arith) in
    let first = first_decimal (suc n) (omega arith) (omega arith) in
    (negative_from (decimal (suc n)) again.0 (λ e. omega (arith, first, e)), ap (λ (k : ℕ). neg_ℤ (pos k)) again.1, again.1)

-- ---- magnitudes

neg_abs : (n : ℕ) → nat_abs (neg_ℤ (pos n)) ≡ n
neg_abs zero = refl
neg_abs (suc n) = refl

pub size_abs : (ds : List ℕ) → size ds ≡ nat_abs (signed_value ds)
size_abs [] = refl
size_abs (b ∷ bs) = by_first (eqb b 45) refl
  where
    by_first : (z : Bool) → eqb b 45 ≡ z → size (b ∷ bs) ≡ nat_abs (signed_value (b ∷ bs))
    by_first true e = rw e (sym (neg_abs (value bs)))
    by_first false e = rw e refl

pub within_from : (z : ℤ) (most : ℕ) → nat_abs z ≤ most → (neg_ℤ (pos most) ≤ℤ z) × (z ≤ℤ pos most)
within_from (pos n) most h = (omega (arith, ints), omega (arith, ints))
within_from (negsuc n) most h = (omega (arith, ints), omega (arith, ints))

pub abs_from : (z : ℤ) (most : ℕ) → neg_ℤ (pos most) ≤ℤ z → z ≤ℤ pos most → nat_abs z ≤ most
abs_from (pos n) most low high = omega (arith, ints)
abs_from (negsuc n) most low high = omega (arith, ints)

pub mag_from : (z : ℤ) (most : ℕ) → nat_abs z ≤ most → most < 2 ^ 63 → mag z < 2 ^ 63
mag_from (pos n) most h small = omega arith
mag_from (negsuc n) most h small = omega arith
