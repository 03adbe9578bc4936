-- Numbers of 1 to 9 digits are read.
use Rattle.std.proofs.Common.{◌≡◌, ℕ, ◌^◌, ◌<◌, ◌≤◌, List, [], ◌∷◌, length, Result, Err, Bool, true, false, refl, ap, ◌∙◌, arith}
use Rattle.std.specs.Prelude.{◌&&◌, nat_le}
use Rattle.std.specs.List.{list_all}
use Rattle.std.specs.Char.{is_ascii_digit}
use Rattle.std.specs.Str.{all_ascii_digits}
use Rattle.std.specs.Str.Parse.{AllDigits, IsNumeral, digits_value, without_leading_plus, ParsesUnsigned}
use Rattle.std.proofs.lemmas.Str.Parse.{parse_digits, numerals_by_value, tells_all_ascii_digits}
use Rattle.std.proofs.lemmas.Int.Digits.{digits_value-lt}
use Rattle.std.proofs.lemmas.Bool.{leb-true}
use Rattle.std.proofs.Math.Nat.{pow-le-pow_right}
use Rattle.bid_import.specs.Fields.{is_count}

and-parts : (a b : Bool) → a && b ≡ true → (a ≡ true) × (b ≡ true)
and-parts true b h = (refl, h)
and-parts false b h = absurd (cc)

same-test : (bs : List ℕ) → all_ascii_digits bs ≡ list_all is_ascii_digit bs
same-test [] = refl
same-test (b ∷ bs) = ap (λ rest. is_ascii_digit b && rest) (same-test bs)

pub never-refused : (bs : List ℕ) → is_count bs ≡ true → ¬ (IsNumeral 10 (without_leading_plus bs) × (digits_value 10 (without_leading_plus bs) < 2 ^ 32)) → ⊥
never-refused bs count refused =
    let two = and-parts (nat_le 1 (length bs) && nat_le (length bs) 9) (list_all is_ascii_digit bs) count in
    let sizes = and-parts (nat_le 1 (length bs)) (nat_le (length bs) 9) two.0 in
    let some = leb-true 1 (length bs) sizes.0 in
    let few = leb-true (length bs) 9 sizes.1 in
    let own = numerals_by_value (λ ds. all_ascii_digits ds ≡ true) tells_all_ascii_digits in
    let passes : all_ascii_digits bs ≡ true = same-test bs ∙ two.1 in
    let digits : AllDigits 10 bs = own.to bs passes in
    let small : digits_value 10 bs < 10 ^ length bs = digits_value-lt 10 bs digits in
    let most : 10 ^ length bs ≤ 10 ^ 9 = pow-le-pow_right {n = 10} (omega arith) few in
    let bad : Result ℕ ℕ = Err 0 in
    let parse : ParsesUnsigned 32 10 bs bad = refused in
    parse_digits own 32 bs bad parse passes (omega arith, omega arith)
