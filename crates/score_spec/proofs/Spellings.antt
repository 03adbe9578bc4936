-- A spelling grows by a byte exactly where a value text runs on so.
use Rattle.std.proofs.Common.{◌≡◌, ℕ, suc, ◌+◌, ◌<◌, ◌≤◌, ◌⊎◌, inl, inr, List, [], ◌∷◌, ◌++◌, length, Option, Some, None, Ok, Err, Bool, true, false, refl, sym, ap, ◌∙◌, subst, arith, length-append, append_assoc, append-nil, add-zero}
use Rattle.std.specs.Prelude.{if◌then◌else◌, ◌==◌, nat_lt, is_none, ◌&&◌, IfSome, OnSome}
use Rattle.std.specs.Option.{option_map}
use Rattle.std.specs.Char.{is_digit, digit_value}
use Rattle.std.specs.Str.Parse.{AllDigits}
use Rattle.std.proofs.lemmas.Bool.{lt-ltb, ltb-true, eqb-true, cases_Bool}
use Rattle.std.proofs.lemmas.Int.Digits.{digits_push}
use Rattle.score_spec.specs.declared.scan.Sign.{Sign}
use Rattle.score_spec.specs.declared.scan.Sign.TheVariants.{Absent, Plus, Minus}
use Rattle.score_spec.specs.Spelling.{Exponent, Spelling, sign_text, point_text, exponent_text, text_of, fraction_of, mantissa_of, mantissa, IsExponent, IsSpelling, IsValueText, BeginsValueText}
use Rattle.score_spec.specs.Reading.{only_if, is_exponent_letter, sign_of, is_absent, with_digit, longer_exponent, longer_mantissa, longer_by, longer, spell, spell_on, unwritten}

abbrev plain : Sign → List ℕ → Option (List ℕ) → Spelling
plain sign whole point = record { sign = sign; whole = whole; point = point; exponent = None }

abbrev with_exponent : Sign → List ℕ → Option (List ℕ) → Exponent → Spelling
with_exponent sign whole point e = record { sign = sign; whole = whole; point = point; exponent = Some e }

pub record IsPartExponent (e : Exponent) : Type 0 where
  pub letter : (e.letter ≡ 101) ⊎ (e.letter ≡ 69)
  pub digits : AllDigits 10 e.digits
  pub few : length e.digits ≤ 3

-- a spelling that may be unfinished
pub record IsPart (s : Spelling) : Type 0 where
  pub digits : AllDigits 10 (mantissa s)
  pub few : length (mantissa s) ≤ 36
  pub exponent : IfSome s.exponent IsPartExponent
  pub opened : OnSome s.exponent (1 ≤ length (mantissa s))

-- t is s with the bytes behind it
pub record Grows (s : Spelling) (bytes : List ℕ) (t : Spelling) : Type 0 where
  pub part : IsPart t
  pub text : text_of t ≡ text_of s ++ bytes

-- choices taken apart

if_some : {A : Type 0} (c : Bool) (x y : Option A) (t : A) → (if c then x else y) ≡ Some t → ((c ≡ true) × (x ≡ Some t)) ⊎ ((c ≡ false) × (y ≡ Some t))
if_some true x y t h = inl (refl, h)
if_some false x y t h = inr (refl, h)

only_some : {A : Type 0} (c : Bool) (x t : A) → only_if c x ≡ Some t → (c ≡ true) × (x ≡ t)
only_some true x t h = (refl, cc)
only_some false x t h = absurd (cc)

map_some : {A B : Type 0} (f : A → B) (o : Option A) (t : B) → option_map f o ≡ Some t → (a : A) × ((o ≡ Some a) × (f a ≡ t))
map_some f None t h = absurd (cc)
map_some f (Some a) t h = (a, (refl, cc))

sign-written : (b : ℕ) (sign : Sign) → sign_of b ≡ Some sign → sign_text sign ≡ b ∷ []
sign-written b sign h =
    elim (if_some (b == 43) (Some Plus) (if b == 45 then Some Minus else None) sign h) [
      | inl w ↦ let same : Plus ≡ sign = cc in let byte : b ≡ 43 = eqb-true b 43 w.0 in rw (← same, byte) refl
      | inr w ↦ elim (if_some (b == 45) (Some Minus) None sign w.1) [
        | inl v ↦ let same : Minus ≡ sign = cc in let byte : b ≡ 45 = eqb-true b 45 v.0 in rw (← same, byte) refl
        | inr v ↦ absurd (cc)
      ]
    ]

absent-is : (sign : Sign) → is_absent sign ≡ true → sign ≡ Absent
absent-is Absent h = refl
absent-is Plus h = absurd (cc)
absent-is Minus h = absurd (cc)

and-parts : (a b : Bool) → a && b ≡ true → (a ≡ true) × (b ≡ true)
and-parts true b h = (refl, h)
and-parts false b h = absurd (cc)

letter-is : (b : ℕ) → is_exponent_letter b ≡ true → (b ≡ 101) ⊎ (b ≡ 69)
letter-is b h = elim (cases_Bool (b == 101)) [ inl e ↦ inl (eqb-true b 101 e) | inr e ↦ inr (eqb-true b 69 (rw e at h)) ]

none-left : (xs : List ℕ) → (length xs == 0) ≡ true → xs ≡ []
none-left [] h = refl
none-left (x ∷ xs) h = absurd (omega (arith, eqb-true (length (x ∷ xs)) 0 h))

-- each step grows the text

grow-power : (e f : Exponent) (b : ℕ) → longer_exponent e b ≡ Some f → IsPartExponent e → IsPartExponent f × (exponent_text (Some f) ≡ exponent_text (Some e) ++ b ∷ [])
grow-power e f b h part =
    let with_digits : Exponent = record e { digits = e.digits ++ b ∷ [] } in
    elim (if_some (is_digit b 10) (only_if (nat_lt (length e.digits) 3) with_digits) (if is_absent e.sign && (length e.digits == 0) then option_map (λ sign. record e { sign = sign }) (sign_of b) else None) f h) [
      | inl w ↦
          let v = only_some (nat_lt (length e.digits) 3) with_digits f w.1 in
          let small : length e.digits < 3 = ltb-true _ _ v.0 in
          let digit : digit_value b < 10 = ltb-true _ _ w.0 in
          let part' : IsPartExponent with_digits = record { letter = part.letter; digits = digits_push 10 e.digits b part.digits digit; few = omega (arith, length-append e.digits (b ∷ [])) } in
          let text : exponent_text (Some with_digits) ≡ exponent_text (Some e) ++ b ∷ [] = ap (λ xs. e.letter ∷ xs) (sym (append_assoc (sign_text e.sign) e.digits (b ∷ []))) in
          let P : Exponent → Type 0 = λ x. IsPartExponent x × (exponent_text (Some x) ≡ exponent_text (Some e) ++ b ∷ []) in
          subst P v.1 (part', text)
      | inr w ↦ signed-power e f b part w.1
    ]
  where
    signed-power : (e f : Exponent) (b : ℕ) → IsPartExponent e → (if is_absent e.sign && (length e.digits == 0) then option_map (λ sign. record e { sign = sign }) (sign_of b) else None) ≡ Some f → IsPartExponent f × (exponent_text (Some f) ≡ exponent_text (Some e) ++ b ∷ [])
    signed-power e f b part h =
        elim (if_some (is_absent e.sign && (length e.digits == 0)) (option_map (λ sign. record e { sign = sign }) (sign_of b)) None f h) [
          | inl w ↦
              let tests = and-parts (is_absent e.sign) (length e.digits == 0) w.0 in
              let absent = absent-is e.sign tests.0 in
              let none = none-left e.digits tests.1 in
              let v = map_some (λ sign. record e { sign = sign }) (sign_of b) f w.1 in
              let written = sign-written b v.0 v.1.0 in
              let text : exponent_text (Some (record e { sign = v.0 })) ≡ exponent_text (Some e) ++ b ∷ [] = rw (written, absent, none) refl in
              let P : Exponent → Type 0 = λ x. IsPartExponent x × (exponent_text (Some x) ≡ exponent_text (Some e) ++ b ∷ []) in
              let part' : IsPartExponent (record e { sign = v.0 }) = record { letter = part.letter; digits = part.digits; few = part.few } in
              subst P v.1.1 (part', text)
          | inr w ↦ absurd (cc)
        ]

-- the text of a spelling without exponent
plain-text : (sign : Sign) (whole : List ℕ) (point : Option (List ℕ)) → text_of (plain sign whole point) ≡ sign_text sign ++ (whole ++ point_text point)
plain-text sign whole point = simp append-nil

grow-digit : (sign : Sign) (whole : List ℕ) (point : Option (List ℕ)) (b : ℕ) → IsPart (plain sign whole point) → digit_value b < 10 → length (mantissa_of whole point) < 36 → Grows (plain sign whole point) (b ∷ []) (with_digit point (plain sign whole point) b)
grow-digit sign whole None b part digit few = record {
  part = record { digits = digits_push 10 whole b part.digits digit; few = omega (arith, length-append whole (b ∷ [])); exponent = tt; opened = tt };
  text = plain-text sign (whole ++ b ∷ []) None ∙ simp (append-nil, append_assoc);
}
grow-digit sign whole (Some fraction) b part digit few =
    let joined : (whole ++ fraction) ++ b ∷ [] ≡ whole ++ (fraction ++ b ∷ []) = append_assoc whole fraction (b ∷ []) in
    record {
      part = record { digits = subst (AllDigits 10) joined (digits_push 10 (whole ++ fraction) b part.digits digit); few = omega (arith, length-append (whole ++ fraction) (b ∷ []), ap length joined); exponent = tt; opened = tt };
      text = plain-text sign whole (Some (fraction ++ b ∷ [])) ∙ simp (append-nil, append_assoc);
    }

no_exponent-text : (sign : Sign) (whole : List ℕ) (point : Option (List ℕ)) (b : ℕ) → text_of (with_exponent sign whole point (record { letter = b; sign = Absent; digits = [] })) ≡ text_of (plain sign whole point) ++ b ∷ []
no_exponent-text sign whole point b = simp (append-nil, append_assoc)

grow-mantissa : (sign : Sign) (whole : List ℕ) (point : Option (List ℕ)) (b : ℕ) (t : Spelling) → IsPart (plain sign whole point) → longer_mantissa (plain sign whole point) b ≡ Some t → Grows (plain sign whole point) (b ∷ []) t
grow-mantissa sign whole point b t part h =
    let s = plain sign whole point in
    let m = mantissa_of whole point in
    let G : Spelling → Type 0 = λ x. Grows s (b ∷ []) x in
    elim (if_some (is_digit b 10) _ _ t h) [
      | inl w ↦
          let v = only_some (nat_lt (length m) 36) (with_digit point s b) t w.1 in
          subst G v.1 (grow-digit sign whole point b part (ltb-true _ _ w.0) (ltb-true _ _ v.0))
      | inr w ↦ elim (if_some (b == 46) _ _ t w.1) [
        | inl w ↦
            let v = only_some (is_none point) (record s { point = Some [] }) t w.1 in
            subst G v.1 (grow-point sign whole point b part (eqb-true b 46 w.0) v.0)
        | inr w ↦ elim (if_some (is_exponent_letter b) _ _ t w.1) [
          | inl w ↦
              let v = only_some (nat_lt 0 (length m)) (with_exponent sign whole point (record { letter = b; sign = Absent; digits = [] })) t w.1 in
              subst G v.1 (record {
                part = record { digits = part.digits; few = part.few; exponent = record { letter = letter-is b w.0; digits = tt; few = omega arith }; opened = ltb-true _ _ v.0 };
                text = no_exponent-text sign whole point b;
              })
          | inr w ↦ elim (if_some (is_absent sign && (is_none point && (length m == 0))) _ _ t w.1) [
            | inl w ↦
                let v = map_some (λ g. record s { sign = g }) (sign_of b) t w.1 in
                subst G v.1.1 (grow-sign sign whole point b v.0 part w.0 v.1.0)
            | inr w ↦ absurd (cc)
          ]
        ]
      ]
    ]
  where
    grow-point : (sign : Sign) (whole : List ℕ) (point : Option (List ℕ)) (b : ℕ) → IsPart (plain sign whole point) → b ≡ 46 → is_none point ≡ true → Grows (plain sign whole point) (b ∷ []) (plain sign whole (Some []))
    grow-point sign whole None b part e h = record {
      part = record { digits = rw append-nil part.digits; few = rw append-nil part.few; exponent = tt; opened = tt };
      text = rw e (simp (append-nil, append_assoc));
    }
    grow-point sign whole (Some f) b part e h = absurd (cc)

    grow-sign : (sign : Sign) (whole : List ℕ) (point : Option (List ℕ)) (b : ℕ) (new : Sign) → IsPart (plain sign whole point) → is_absent sign && (is_none point && (length (mantissa_of whole point) == 0)) ≡ true → sign_of b ≡ Some new → Grows (plain sign whole point) (b ∷ []) (plain new whole point)
    grow-sign sign whole None b new part tests h =
        let two = and-parts (is_absent sign) (true && (length whole == 0)) tests in
        let absent = absent-is sign two.0 in
        let none = none-left whole two.1 in
        let written = sign-written b new h in
        record { part = record { digits = part.digits; few = part.few; exponent = tt; opened = tt }; text = rw (written, absent, none) refl }
    grow-sign sign whole (Some f) b new part tests h =
        let two = and-parts (is_absent sign) false tests in absurd (cc)

grow-at : (sign : Sign) (whole : List ℕ) (point : Option (List ℕ)) (x : Option Exponent) (b : ℕ) (t : Spelling) → let s : Spelling = record { sign = sign; whole = whole; point = point; exponent = x } in IsPart s → longer_by x s b ≡ Some t → Grows s (b ∷ []) t
grow-at sign whole point None b t part h = grow-mantissa sign whole point b t part h
grow-at sign whole point (Some e) b t part h =
    let s = with_exponent sign whole point e in
    let v = map_some (λ x. record s { exponent = Some x }) (longer_exponent e b) t h in
    let grown = grow-power e v.0 b v.1.0 part.exponent in
    let G : Spelling → Type 0 = λ x. Grows s (b ∷ []) x in
    subst G v.1.1 (record {
      part = record { digits = part.digits; few = part.few; exponent = grown.0; opened = part.opened };
      text = rw grown.1 (simp append_assoc);
    })

pub grow : (s t : Spelling) (b : ℕ) → IsPart s → longer s b ≡ Some t → Grows s (b ∷ []) t
grow s t b part h = grow-at s.sign s.whole s.point s.exponent b t part h

-- some value text begins with every unfinished spelling

abbrev finished : Spelling → List ℕ → Type 0
finished s rest = IsValueText (text_of s ++ rest)

as_spelled : (s t : Spelling) (rest : List ℕ) → IsSpelling t → text_of s ++ rest ≡ text_of t → BeginsValueText (text_of s)
as_spelled s t rest spelled same = (rest, (t, (spelled, same)))

zero_digit : AllDigits 10 (48 ∷ [])
zero_digit = (omega arith, tt)

begins-plain : (sign : Sign) (whole : List ℕ) (point : Option (List ℕ)) → IsPart (plain sign whole point) → BeginsValueText (text_of (plain sign whole point))
begins-plain sign [] None part =
    as_spelled (plain sign [] None) (plain sign (48 ∷ []) None) (48 ∷ []) (record { digits = zero_digit; some = omega arith; few = omega arith; exponent = tt }) (simp (append-nil, append_assoc))
begins-plain sign (d ∷ ds) None part =
    as_spelled (plain sign (d ∷ ds) None) (plain sign (d ∷ ds) None) [] (record { digits = part.digits; some = omega arith; few = part.few; exponent = tt }) (append-nil (text_of (plain sign (d ∷ ds) None)))
begins-plain sign [] (Some []) part =
    as_spelled (plain sign [] (Some [])) (plain sign [] (Some (48 ∷ []))) (48 ∷ []) (record { digits = zero_digit; some = omega arith; few = omega arith; exponent = tt }) (simp (append-nil, append_assoc))
begins-plain sign [] (Some (f ∷ fs)) part =
    as_spelled (plain sign [] (Some (f ∷ fs))) (plain sign [] (Some (f ∷ fs))) [] (record { digits = part.digits; some = omega arith; few = part.few; exponent = tt }) (append-nil (text_of (plain sign [] (Some (f ∷ fs)))))
begins-plain sign (d ∷ ds) (Some fraction) part =
    as_spelled (plain sign (d ∷ ds) (Some fraction)) (plain sign (d ∷ ds) (Some fraction)) [] (record { digits = part.digits; some = omega arith; few = part.few; exponent = tt }) (append-nil (text_of (plain sign (d ∷ ds) (Some fraction))))

begins-power : (sign : Sign) (whole : List ℕ) (point : Option (List ℕ)) (letter : ℕ) (raise : Sign) (digits : List ℕ) → let e : Exponent = record { letter = letter; sign = raise; digits = digits } in IsPart (with_exponent sign whole point e) → BeginsValueText (text_of (with_exponent sign whole point e))
begins-power sign whole point letter raise [] part =
    let e : Exponent = record { letter = letter; sign = raise; digits = [] } in
    let f : Exponent = record { letter = letter; sign = raise; digits = 48 ∷ [] } in
    as_spelled (with_exponent sign whole point e) (with_exponent sign whole point f) (48 ∷ [])
    (record { digits = part.digits; some = part.opened; few = part.few; exponent = record { letter = part.exponent.letter; digits = zero_digit; some = omega arith; few = omega arith } })
    (simp (append-nil, append_assoc))
begins-power sign whole point letter raise (d ∷ ds) part =
    let e : Exponent = record { letter = letter; sign = raise; digits = d ∷ ds } in
    as_spelled (with_exponent sign whole point e) (with_exponent sign whole point e) []
    (record { digits = part.digits; some = part.opened; few = part.few; exponent = record { letter = part.exponent.letter; digits = part.exponent.digits; some = omega arith; few = part.exponent.few } })
    (append-nil (text_of (with_exponent sign whole point e)))

begins-at : (sign : Sign) (whole : List ℕ) (point : Option (List ℕ)) (x : Option Exponent) → let s : Spelling = record { sign = sign; whole = whole; point = point; exponent = x } in IsPart s → BeginsValueText (text_of s)
begins-at sign whole point None part = begins-plain sign whole point part
begins-at sign whole point (Some e) part = begins-power sign whole point e.letter e.sign e.digits part

pub begins : (s : Spelling) → IsPart s → BeginsValueText (text_of s)
begins s part = begins-at s.sign s.whole s.point s.exponent part

-- the reading of a text that is spelled

-- from s, these bytes are read to their end, and make t
abbrev Reads : Spelling → List ℕ → Spelling → Type 0
Reads s bytes t = (place : ℕ) → spell place s bytes ≡ Ok t

spell-append : (place : ℕ) (s : Spelling) (xs ys : List ℕ) (t : Spelling) → spell place s xs ≡ Ok t → spell place s (xs ++ ys) ≡ spell (place + length xs) t ys
spell-append place s [] ys t h = let same : s ≡ t = cc in rw (same, add-zero) refl
spell-append place s (x ∷ xs) ys t h =
    on place xs ys t (longer s x) (λ u g. spell-append (place + 1) u xs ys t g) h
  where
    on : (place : ℕ) (xs ys : List ℕ) (t : Spelling) (o : Option Spelling)
        → ((u : Spelling) → spell (place + 1) u xs ≡ Ok t → spell (place + 1) u (xs ++ ys) ≡ spell (place + 1 + length xs) t ys)
        → spell_on place (λ u. spell (place + 1) u xs) o ≡ Ok t
        → spell_on place (λ u. spell (place + 1) u (xs ++ ys)) o ≡ spell (place + suc (length xs)) t ys
    on place xs ys t None rest h = absurd (cc)
    on place xs ys t (Some u) rest h =
        let count : place + 1 + length xs ≡ place + suc (length xs) = omega arith in
        rest u h ∙ ap (λ n. spell n t ys) count

reads-append : (s t u : Spelling) (xs ys : List ℕ) → Reads s xs t → Reads t ys u → Reads s (xs ++ ys) u
reads-append s t u xs ys p q = λ place. spell-append place s xs ys t (p place) ∙ q (place + length xs)

reads-step : (s t u : Spelling) (b : ℕ) (bytes : List ℕ) → longer s b ≡ Some t → Reads t bytes u → Reads s (b ∷ bytes) u
reads-step s t u b bytes e rest = λ place. rw e (rest (place + 1))

reads-sign : (sign : Sign) → Reads unwritten (sign_text sign) (plain sign [] None)
reads-sign Absent = λ place. refl
reads-sign Plus = λ place. refl
reads-sign Minus = λ place. refl

reads-whole : (sign : Sign) (whole ds : List ℕ) → AllDigits 10 ds → length whole + length ds ≤ 36 → Reads (plain sign whole None) ds (plain sign (whole ++ ds) None)
reads-whole sign whole [] digits few = λ place. rw append-nil refl
reads-whole sign whole (d ∷ ds) digits few =
    let digit : nat_lt (digit_value d) 10 ≡ true = lt-ltb (digit_value d) 10 digits.0 in
    let room : nat_lt (length whole) 36 ≡ true = lt-ltb (length whole) 36 (omega arith) in
    let step : longer (plain sign whole None) d ≡ Some (plain sign (whole ++ d ∷ []) None) = rw (digit, room) refl in
    let rest = reads-whole sign (whole ++ d ∷ []) ds digits.1 (omega (arith, length-append whole (d ∷ []))) in
    let joined : (whole ++ d ∷ []) ++ ds ≡ whole ++ d ∷ ds = append_assoc whole (d ∷ []) ds in
    reads-step (plain sign whole None) (plain sign (whole ++ d ∷ []) None) (plain sign (whole ++ d ∷ ds) None) d ds step (subst (λ w. Reads (plain sign (whole ++ d ∷ []) None) ds (plain sign w None)) joined rest)

reads-fraction : (sign : Sign) (whole fraction ds : List ℕ) → AllDigits 10 ds → length (whole ++ fraction) + length ds ≤ 36 → Reads (plain sign whole (Some fraction)) ds (plain sign whole (Some (fraction ++ ds)))
reads-fraction sign whole fraction [] digits few = λ place. rw append-nil refl
reads-fraction sign whole fraction (d ∷ ds) digits few =
    let digit : nat_lt (digit_value d) 10 ≡ true = lt-ltb (digit_value d) 10 digits.0 in
    let room : nat_lt (length (whole ++ fraction)) 36 ≡ true = lt-ltb (length (whole ++ fraction)) 36 (omega arith) in
    let step : longer (plain sign whole (Some fraction)) d ≡ Some (plain sign whole (Some (fraction ++ d ∷ []))) = rw (digit, room) refl in
    let rest = reads-fraction sign whole (fraction ++ d ∷ []) ds digits.1 (omega (arith, length-append whole (fraction ++ d ∷ []), length-append whole fraction, length-append fraction (d ∷ []))) in
    let joined : (fraction ++ d ∷ []) ++ ds ≡ fraction ++ d ∷ ds = append_assoc fraction (d ∷ []) ds in
    reads-step (plain sign whole (Some fraction)) (plain sign whole (Some (fraction ++ d ∷ []))) (plain sign whole (Some (fraction ++ d ∷ ds))) d ds step (subst (λ w. Reads (plain sign whole (Some (fraction ++ d ∷ []))) ds (plain sign whole (Some w))) joined rest)

reads-point : (sign : Sign) (whole : List ℕ) (point : Option (List ℕ)) → AllDigits 10 (fraction_of point) → length whole + length (fraction_of point) ≤ 36 → Reads (plain sign whole None) (point_text point) (plain sign whole point)
reads-point sign whole None digits few = λ place. refl
reads-point sign whole (Some f) digits few =
    reads-step (plain sign whole None) (plain sign whole (Some [])) (plain sign whole (Some f)) 46 f refl
    (reads-fraction sign whole [] f digits (omega (arith, length-append whole [])))

reads-power : (sign : Sign) (whole : List ℕ) (point : Option (List ℕ)) (letter : ℕ) (raise : Sign) (taken ds : List ℕ) → AllDigits 10 ds → length taken + length ds ≤ 3
    → Reads (with_exponent sign whole point (record { letter = letter; sign = raise; digits = taken })) ds (with_exponent sign whole point (record { letter = letter; sign = raise; digits = taken ++ ds }))
reads-power sign whole point letter raise taken [] digits few = λ place. rw append-nil refl
reads-power sign whole point letter raise taken (d ∷ ds) digits few =
    let at : List ℕ → Spelling = λ ds. with_exponent sign whole point (record { letter = letter; sign = raise; digits = ds }) in
    let digit : nat_lt (digit_value d) 10 ≡ true = lt-ltb (digit_value d) 10 digits.0 in
    let room : nat_lt (length taken) 3 ≡ true = lt-ltb (length taken) 3 (omega arith) in
    let step : longer (at taken) d ≡ Some (at (taken ++ d ∷ [])) = rw (digit, room) refl in
    let rest = reads-power sign whole point letter raise (taken ++ d ∷ []) ds digits.1 (omega (arith, length-append taken (d ∷ []))) in
    let joined : (taken ++ d ∷ []) ++ ds ≡ taken ++ d ∷ ds = append_assoc taken (d ∷ []) ds in
    reads-step (at taken) (at (taken ++ d ∷ [])) (at (taken ++ d ∷ ds)) d ds step (subst (λ w. Reads (at (taken ++ d ∷ [])) ds (at w)) joined rest)

reads-power_sign : (sign : Sign) (whole : List ℕ) (point : Option (List ℕ)) (letter : ℕ) (raise : Sign)
    → Reads (with_exponent sign whole point (record { letter = letter; sign = Absent; digits = [] })) (sign_text raise) (with_exponent sign whole point (record { letter = letter; sign = raise; digits = [] }))
reads-power_sign sign whole point letter Absent = λ place. refl
reads-power_sign sign whole point letter Plus = λ place. refl
reads-power_sign sign whole point letter Minus = λ place. refl

letter-step : (sign : Sign) (whole : List ℕ) (point : Option (List ℕ)) (letter : ℕ) → (letter ≡ 101) ⊎ (letter ≡ 69) → 1 ≤ length (mantissa_of whole point) → longer (plain sign whole point) letter ≡ Some (with_exponent sign whole point (record { letter = letter; sign = Absent; digits = [] }))
letter-step sign whole point letter (inl e) some =
    let room : nat_lt 0 (length (mantissa_of whole point)) ≡ true = lt-ltb 0 (length (mantissa_of whole point)) (omega arith) in rw (e, room) refl
letter-step sign whole point letter (inr e) some =
    let room : nat_lt 0 (length (mantissa_of whole point)) ≡ true = lt-ltb 0 (length (mantissa_of whole point)) (omega arith) in rw (e, room) refl

reads-exponent : (sign : Sign) (whole : List ℕ) (point : Option (List ℕ)) (x : Option Exponent) → IfSome x IsExponent → 1 ≤ length (mantissa_of whole point) → Reads (plain sign whole point) (exponent_text x) (record { sign = sign; whole = whole; point = point; exponent = x })
reads-exponent sign whole point None given some = λ place. refl
reads-exponent sign whole point (Some e) given some =
    let bare : Spelling = with_exponent sign whole point (record { letter = e.letter; sign = Absent; digits = [] }) in
    let signed : Spelling = with_exponent sign whole point (record { letter = e.letter; sign = e.sign; digits = [] }) in
    let all : Spelling = with_exponent sign whole point e in
    reads-step (plain sign whole point) bare all e.letter (sign_text e.sign ++ e.digits) (letter-step sign whole point e.letter given.letter some)
    (reads-append bare signed all (sign_text e.sign) e.digits (reads-power_sign sign whole point e.letter e.sign) (reads-power sign whole point e.letter e.sign [] e.digits given.digits (omega (arith, given.few))))

digits-front : (xs ys : List ℕ) → AllDigits 10 (xs ++ ys) → AllDigits 10 xs
digits-front [] ys h = tt
digits-front (x ∷ xs) ys h = (h.0, digits-front xs ys h.1)

digits-back : (xs ys : List ℕ) → AllDigits 10 (xs ++ ys) → AllDigits 10 ys
digits-back [] ys h = h
digits-back (x ∷ xs) ys h = digits-back xs ys h.1

whole-digits : (whole : List ℕ) (point : Option (List ℕ)) → AllDigits 10 (mantissa_of whole point) → AllDigits 10 whole × AllDigits 10 (fraction_of point) × (length whole + length (fraction_of point) ≡ length (mantissa_of whole point))
whole-digits whole None h = (h, tt, add-zero (length whole))
whole-digits whole (Some f) h = (digits-front whole f h, digits-back whole f h, sym (length-append whole f))

reads-at : (sign : Sign) (whole : List ℕ) (point : Option (List ℕ)) (x : Option Exponent) → let s : Spelling = record { sign = sign; whole = whole; point = point; exponent = x } in IsSpelling s → Reads unwritten (text_of s) s
reads-at sign whole point x spelled =
    let s : Spelling = record { sign = sign; whole = whole; point = point; exponent = x } in
    let parts = whole-digits whole point spelled.digits in
    let few : length (mantissa_of whole point) ≤ 36 = spelled.few in
    let room : length whole ≤ 36 = omega (arith, parts.2) in
    reads-append unwritten (plain sign [] None) s (sign_text sign) (whole ++ (point_text point ++ exponent_text x)) (reads-sign sign)
    (reads-append (plain sign [] None) (plain sign whole None) s whole (point_text point ++ exponent_text x) (reads-whole sign [] whole parts.0 (omega arith))
    (reads-append (plain sign whole None) (plain sign whole point) s (point_text point) (exponent_text x) (reads-point sign whole point parts.1 (omega (arith, parts.2)))
    (reads-exponent sign whole point x spelled.exponent spelled.some)))

-- what is spelled is read as itself
pub reads : (s : Spelling) → IsSpelling s → (place : ℕ) → spell place unwritten (text_of s) ≡ Ok s
reads s spelled = reads-at s.sign s.whole s.point s.exponent spelled

-- the reading of any text

Grows-trans : (s t u : Spelling) (xs ys : List ℕ) → text_of t ≡ text_of s ++ xs → Grows t ys u → Grows s (xs ++ ys) u
Grows-trans s t u xs ys text grown = record { part = grown.part; text = grown.text ∙ ap (λ zs. zs ++ ys) text ∙ append_assoc (text_of s) xs ys }

-- what is read to its end is the text of the spelling
pub read_through : (place : ℕ) (s t : Spelling) (bytes : List ℕ) → IsPart s → spell place s bytes ≡ Ok t → Grows s bytes t
read_through place s t [] part h = let same : s ≡ t = cc in record { part = subst IsPart same part; text = sym (append-nil (text_of s) ∙ ap text_of same) }
read_through place s t (b ∷ bytes) part h = on (λ u. read_through (place + 1) u t bytes) (longer s b) refl h
  where
    on : ((u : Spelling) → IsPart u → spell (place + 1) u bytes ≡ Ok t → Grows u bytes t) → (o : Option Spelling) → longer s b ≡ o → spell_on place (λ u. spell (place + 1) u bytes) o ≡ Ok t → Grows s (b ∷ bytes) t
    on rest None e h = absurd (cc)
    on rest (Some u) e h =
        let one = grow s u b part e in
        Grows-trans s u t (b ∷ []) bytes one.text (rest u one.part h)

-- where the reading stops: behind a front that some value text begins with, at a byte with which none runs on
pub record Stops (s : Spelling) (bytes : List ℕ) (count : ℕ) : Type 0 where
  pub front : List ℕ
  pub byte : ℕ
  pub rest : List ℕ
  pub last : Spelling
  pub split : bytes ≡ front ++ byte ∷ rest
  pub reads : (place : ℕ) → spell place s front ≡ Ok last
  pub stuck : longer last byte ≡ None
  pub part : IsPart last
  pub text : text_of last ≡ text_of s ++ front
  pub count_is : count ≡ length front

stops : (place stop : ℕ) (s : Spelling) (bytes : List ℕ) → IsPart s → spell place s bytes ≡ Err stop → (count : ℕ) × ((stop ≡ place + count) × Stops s bytes count)
stops place stop s [] part h = absurd (cc)
stops place stop s (b ∷ bytes) part h = on (λ u. stops (place + 1) stop u bytes) (longer s b) refl h
  where
    on : ((u : Spelling) → IsPart u → spell (place + 1) u bytes ≡ Err stop → (count : ℕ) × ((stop ≡ place + 1 + count) × Stops u bytes count)) → (o : Option Spelling) → longer s b ≡ o → spell_on place (λ u. spell (place + 1) u bytes) o ≡ Err stop → (count : ℕ) × ((stop ≡ place + count) × Stops s (b ∷ bytes) count)
    on later None e h =
        let here : place ≡ stop = cc in
        (0, (sym here ∙ sym (add-zero place), record { front = []; byte = b; rest = bytes; last = s; split = refl; reads = λ n. refl; stuck = e; part = part; text = sym (append-nil (text_of s)); count_is = refl }))
    on later (Some u) e h =
        let one = grow s u b part e in
        let more = later u one.part h in
        let w = more.1.1 in (
          more.0 + 1,
          (
            omega (arith, more.1.0),
            record {
              front = b ∷ w.front;
              byte = w.byte;
              rest = w.rest;
              last = w.last;
              split = ap (λ xs. b ∷ xs) w.split;
              reads = reads-step s u w.last b w.front e w.reads;
              stuck = w.stuck;
              part = w.part;
              text = w.text ∙ ap (λ xs. xs ++ w.front) one.text ∙ append_assoc (text_of s) (b ∷ []) w.front;
              count_is = omega (arith, w.count_is);
            },
          ),
        )

unwritten-part : IsPart unwritten
unwritten-part = record { digits = tt; few = omega arith; exponent = tt; opened = tt }

pub stops_at : (stop : ℕ) (bytes : List ℕ) → spell 0 unwritten bytes ≡ Err stop → Stops unwritten bytes stop
stops_at stop bytes h =
    let w = stops 0 stop unwritten bytes unwritten-part h in
    let same : w.0 ≡ stop = omega (arith, w.1.0) in
    subst (Stops unwritten bytes) same w.1.1

pub reads_through : (t : Spelling) (bytes : List ℕ) → spell 0 unwritten bytes ≡ Ok t → Grows unwritten bytes t
reads_through t bytes h = read_through 0 unwritten t bytes unwritten-part h

-- no value text runs on over the byte at which the reading stops
pub no_further : (front rest : List ℕ) (byte : ℕ) (last : Spelling) → ((place : ℕ) → spell place unwritten front ≡ Ok last) → longer last byte ≡ None → (more : List ℕ) → ¬ IsValueText ((front ++ byte ∷ rest) ++ more)
no_further front rest byte last read stuck more value =
    let spelled = reads value.0 value.1.0 0 in
    let text : (front ++ byte ∷ rest) ++ more ≡ front ++ byte ∷ (rest ++ more) = append_assoc front (byte ∷ rest) more in
    let whole : spell 0 unwritten (front ++ byte ∷ (rest ++ more)) ≡ Ok value.0 = ap (spell 0 unwritten) (sym text ∙ value.1.1) ∙ spelled in
    let run = spell-append 0 unwritten front (byte ∷ (rest ++ more)) last (read 0) in
    let stop : spell (0 + length front) last (byte ∷ (rest ++ more)) ≡ Err (0 + length front) = rw stuck refl in
    absurd (cc)
