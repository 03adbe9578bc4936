-- Digits that may begin with zeros.
use Rattle.std.proofs.Common.{◌≡◌, ℕ, ◌+◌, ◌-◌, ◌*◌, ◌<◌, ◌≤◌, ◌&&◌, nat_lt, Bool, true, false, List, length, get_or, take, ap, ◌∙◌, sym, arith, rules}
use Rattle.std.specs.Char.{digit_value, is_ascii_digit}
use Rattle.std.specs.List.{list_all}
use Rattle.std.specs.Str.Parse.{AllDigits}
use Rattle.std.proofs.lemmas.Int.Digits.{digits_value_more}
use Rattle.std.proofs.lemmas.Str.Parse.{digit_at, digits_value-take-le}
use Rattle.text_lines.proofs.NumberLaws.{numerals, same_digits}
use Rattle.http_framing.specs.HeadTests.{is_length, length_value}

digits_from : (ds : List ℕ) → is_length ds ≡ true → AllDigits 10 ds
digits_from ds h = numerals.to ds (sym (same_digits ds) ∙ second (nat_lt 0 (length ds)) (list_all is_ascii_digit ds) h)
  where
    second : (a b : Bool) → (a && b) ≡ true → b ≡ true
    second true b h = h
    second false b h = absurd cc

-- each digit of a length
pub length_digit : (ds : List ℕ) (i : ℕ) → is_length ds ≡ true → i < length ds → (48 ≤ get_or ds i 0) × (get_or ds i 0 ≤ 57)
length_digit ds i h lt = digit_at ds i (digits_from ds h) lt

-- what one more digit adds
pub length_more : (ds : List ℕ) (i : ℕ) → is_length ds ≡ true → i < length ds → length_value (take (i + 1) ds) ≡ length_value (take i ds) * 10 + (get_or ds i 0 - 48)
length_more ds i h lt =
    let r = length_digit ds i h lt in
    digits_value_more 10 ds i lt ∙ ap (λ d. length_value (take i ds) * 10 + d) (digit_is (get_or ds i 0) r.0 r.1)
  where
    digit_is : (c : ℕ) → 48 ≤ c → c ≤ 57 → digit_value c ≡ c - 48
    digit_is c low high = search (rules)

pub length_front : (ds : List ℕ) (i : ℕ) → length_value (take i ds) ≤ length_value ds
length_front ds i = digits_value-take-le 10 ds i (omega arith)
