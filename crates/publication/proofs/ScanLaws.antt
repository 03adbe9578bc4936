-- Numbers read byte by byte are the numbers of the fields.
use Rattle.std.proofs.Common.{◌≡◌, ℕ, ◌+◌, ◌-◌, ◌*◌, ◌≤◌, Bool, true, false, cond, eqb, leb, ◌≢◌, ◌&&◌, ◌||◌, List, [], ◌∷◌, ◌++◌, length, Option, None, Some, refl, sym, ap, subst, ◌∙◌, append_assoc, arith, rules, length-append}
use Rattle.std.specs.Prelude.{not, map}
use Rattle.std.specs.Char.{digit_value, is_ascii_digit}
use Rattle.std.specs.List.{list_all, slice_split, onto_first}
use Rattle.std.specs.Option.{option_map, option_and_then}
use Rattle.std.specs.Str.Parse.{digits_value_after}
use Rattle.std.proofs.lemmas.Bool.{eqb-true, eqb-false, ne_eqb, leb-true, and_parts}
use Rattle.std.proofs.lemmas.List.{append-nil}
use Rattle.std.proofs.lemmas.Int.{clamps}
use Rattle.publication.specs.declared.numbers.Digits.{Digits}
use Rattle.publication.specs.Scans.{held, numbers_of, fresh, with_digit, scan}
use Rattle.text_lines.specs.Fields.{is_space, fields}
use Rattle.text_lines.specs.Numbers.{is_canonical, value}

value_snoc : (n : ℕ) (ds : List ℕ) (x : ℕ) → digits_value_after 10 n (ds ++ x ∷ []) ≡ digits_value_after 10 n ds * 10 + digit_value x
value_snoc n [] x = refl
value_snoc n (d ∷ ds) x = value_snoc (n * 10 + digit_value d) ds x

digit_is : (x : ℕ) → is_ascii_digit x ≡ true → digit_value x ≡ x - 48
digit_is x h = search rules

all_snoc : (ds : List ℕ) (x : ℕ) → list_all is_ascii_digit ds ≡ true → is_ascii_digit x ≡ true → list_all is_ascii_digit (ds ++ x ∷ []) ≡ true
all_snoc [] x h e = rw e refl
all_snoc (d ∷ ds) x h e =
    let parts = and_parts (is_ascii_digit d) (list_all is_ascii_digit ds) h in
    rw (parts.0, all_snoc ds x parts.1 e) refl

and_false : (b : Bool) → (b && false) ≡ false
and_false true = refl
and_false false = refl

bad_inside : (ds : List ℕ) (x : ℕ) (p : List ℕ) → is_ascii_digit x ≡ false → list_all is_ascii_digit (ds ++ x ∷ p) ≡ false
bad_inside [] x p e = rw e refl
bad_inside (d ∷ ds) x p e = rw (bad_inside ds x p e) (and_false (is_ascii_digit d))

held_step : (v d : ℕ) → held (held v * 10 + d) ≡ held (v * 10 + d)
held_step v d = omega (arith, clamps)

longer : (ds : List ℕ) (x : ℕ) (p : List ℕ) → eqb (length (ds ++ x ∷ p)) 0 ≡ false
longer ds x p = ne_eqb (length (ds ++ x ∷ p)) 0 (λ z. absurd (omega (arith, length-append ds (x ∷ p), z)))

grows : (n : ℕ) (ds : List ℕ) → n ≤ digits_value_after 10 n ds
grows n [] = omega arith
grows n (d ∷ ds) = omega (arith, grows (n * 10 + digit_value d) ds)

digit_low : (d : ℕ) → is_ascii_digit d ≡ true → 48 ≤ d
digit_low d h = leb-true 48 d (and_parts (leb 48 d) (leb d 57) h).0

-- digits with another digit than 0 in front are no 0
positive : (d : ℕ) (ds : List ℕ) → is_ascii_digit d ≡ true → d ≢ 48 → 1 ≤ value (d ∷ ds)
positive d ds h other =
    let low = digit_low d h in
    omega (arith, grows (0 * 10 + digit_value d) ds, digit_is d h, low, other)

-- the field so far: its digits, of which there are none or which are canonical
pub record IsPart (s : Digits) (f : List ℕ) : Type 0 where
  pub number : s.number ≡ held (value f)
  pub empty : s.empty ≡ true → f ≡ []
  pub canonical : s.empty ≡ false → is_canonical f ≡ true

-- a digit in front
one_digit : (x : ℕ) (p : List ℕ) → is_ascii_digit x ≡ true → is_canonical (x ∷ []) ≡ true
one_digit x p e = by (eqb x 48)
  where
    by : (z : Bool) → cond z true (is_ascii_digit x && true) ≡ true
    by true = refl
    by false = rw e refl

-- a canonical field with a zero in front is 0
not_zero : (d : ℕ) (ds : List ℕ) → is_canonical (d ∷ ds) ≡ true → eqb (held (value (d ∷ ds))) 0 ≡ false → eqb d 48 ≡ true → ⊥
not_zero d ds h n e = by ds (rw e at h) n
  where
    by : (ds : List ℕ) → eqb (length ds) 0 ≡ true → eqb (held (value (d ∷ ds))) 0 ≡ false → ⊥
    by [] h n = let z : d ≡ 48 = eqb-true d 48 e in absurd (cc (rw z at n))
    by (y ∷ ys) h n = absurd (omega (arith, eqb-true (length (y ∷ ys)) 0 h))

-- a canonical field that isn't 0 goes on by a digit, and a field that is 0 by none
canonical_snoc : (f : List ℕ) (x : ℕ) → is_canonical f ≡ true → eqb (held (value f)) 0 ≡ false → is_ascii_digit x ≡ true → is_canonical (f ++ x ∷ []) ≡ true
canonical_snoc [] x h n e = absurd (cc)
canonical_snoc (d ∷ ds) x h n e = by (eqb d 48) refl
  where
    by : (z : Bool) → eqb d 48 ≡ z → is_canonical ((d ∷ ds) ++ x ∷ []) ≡ true
    by true zero_first = absurd (not_zero d ds h n zero_first)
    by false other = rw other (all_snoc (d ∷ ds) x (rw other at h) e)

zero_stops : (f : List ℕ) (x : ℕ) (p : List ℕ) → is_canonical f ≡ true → eqb (held (value f)) 0 ≡ true → is_canonical (f ++ x ∷ p) ≡ false
zero_stops [] x p h n = absurd cc
zero_stops (d ∷ ds) x p h n = by (eqb d 48) refl
  where
    by : (z : Bool) → eqb d 48 ≡ z → is_canonical ((d ∷ ds) ++ x ∷ p) ≡ false
    by true e = rw e (longer ds x p)
    by false e =
        let digits = and_parts (is_ascii_digit d) (list_all is_ascii_digit ds) (rw e at h) in
        let some : 1 ≤ value (d ∷ ds) = positive d ds digits.0 (eqb-false d 48 e) in
        let none : held (value (d ∷ ds)) ≡ 0 = eqb-true (held (value (d ∷ ds))) 0 n in
        absurd (omega (arith, clamps, some, none))

other_stops : (f : List ℕ) (x : ℕ) (p : List ℕ) → is_ascii_digit x ≡ false → is_canonical (f ++ x ∷ p) ≡ false
other_stops [] x p e = by (eqb x 48) refl
  where
    by : (z : Bool) → eqb x 48 ≡ z → is_canonical (x ∷ p) ≡ false
    by true q = let is : x ≡ 48 = eqb-true x 48 q in absurd (cc (rw is at e))
    by false q = rw (q, e) refl
other_stops (d ∷ ds) x p e = by (eqb d 48) refl
  where
    by : (z : Bool) → eqb d 48 ≡ z → is_canonical ((d ∷ ds) ++ x ∷ p) ≡ false
    by true q = rw q (longer ds x p)
    by false q = rw q (bad_inside (d ∷ ds) x p e)

extends : (s t : Digits) (f : List ℕ) (x : ℕ) → with_digit s x ≡ Some t → IsPart s f → IsPart t (f ++ x ∷ [])
unfolding with_digit
extends s t f x e h = by (is_ascii_digit x) (s.empty) (eqb s.number 0) refl refl refl e
  where
    next : Digits
    next = record { number = held (s.number * 10 + (x - 48)); empty = false }

    grown : is_ascii_digit x ≡ true → next.number ≡ held (value (f ++ x ∷ []))
    grown digit = rw (h.number, value_snoc 0 f x, digit_is x digit) (held_step (value f) (x - 48))

    made : is_ascii_digit x ≡ true → is_canonical (f ++ x ∷ []) ≡ true → next ≡ t → IsPart t (f ++ x ∷ [])
    made digit good same = subst (λ (t : Digits). IsPart t (f ++ x ∷ [])) same (record { number = grown digit; empty = λ z. absurd cc; canonical = λ z. good })

    by : (a b z : Bool) → is_ascii_digit x ≡ a → s.empty ≡ b → eqb s.number 0 ≡ z → cond (a && (b || not z)) (Some next) None ≡ Some t → IsPart t (f ++ x ∷ [])
    by false b z p q r g = absurd cc
    by true true z p q r g = made p (rw (h.empty q) (one_digit x [] p)) (cc)
    by true false true p q r g = absurd cc
    by true false false p q r g = made p (canonical_snoc f x (h.canonical q) (rw h.number at r) p) (cc)

stops : (s : Digits) (f : List ℕ) (x : ℕ) (p : List ℕ) → with_digit s x ≡ None → IsPart s f → is_canonical (f ++ x ∷ p) ≡ false
unfolding with_digit
stops s f x p e h = by (is_ascii_digit x) (s.empty) (eqb s.number 0) refl refl refl e
  where
    next : Digits
    next = record { number = held (s.number * 10 + (x - 48)); empty = false }

    by : (a b z : Bool) → is_ascii_digit x ≡ a → s.empty ≡ b → eqb s.number 0 ≡ z → cond (a && (b || not z)) (Some next) None ≡ None → is_canonical (f ++ x ∷ p) ≡ false
    by false b z q r t g = other_stops f x p q
    by true true z q r t g = absurd cc
    by true false true q r t g = zero_stops f x p (h.canonical r) (rw h.number at t)
    by true false false q r t g = absurd cc

ends : (s : Digits) (f : List ℕ) → IsPart s f → is_canonical f ≡ not s.empty
ends s f h = by s.empty refl
  where
    by : (b : Bool) → s.empty ≡ b → is_canonical f ≡ not b
    by true e = rw (h.empty e) refl
    by false e = h.canonical e

-- the fields, the first of them behind a front of its own
abbrev with_front : List ℕ → List (List ℕ) → List (List ℕ)
with_front f [] = f ∷ []
with_front f (p ∷ ps) = (f ++ p) ∷ ps

with_front-onto_first : (f : List ℕ) (x : ℕ) (ps : List (List ℕ)) → with_front f (onto_first x ps) ≡ with_front (f ++ x ∷ []) ps
with_front-onto_first f x [] = refl
with_front-onto_first f x (p ∷ ps) = ap (λ (q : List ℕ). q ∷ ps) (sym (append_assoc f (x ∷ []) p))

with_front-nil : (bytes : List ℕ) → with_front [] (slice_split is_space bytes) ≡ slice_split is_space bytes
with_front-nil [] = refl
with_front-nil (x ∷ xs) = by (slice_split is_space xs) (eqb x 32)
  where
    by : (ps : List (List ℕ)) (b : Bool) → with_front [] (cond b ([] ∷ ps) (onto_first x ps)) ≡ cond b ([] ∷ ps) (onto_first x ps)
    by ps true = refl
    by [] false = refl
    by (p ∷ ps) false = refl

-- a first field that is canonical, and one that isn't
numbers_first : (g : List ℕ) (ps : List (List ℕ)) → is_canonical g ≡ true → numbers_of (g ∷ ps) ≡ option_map (λ ns. held (value g) ∷ ns) (numbers_of ps)
numbers_first g ps e = rw e (by (list_all is_canonical ps))
  where
    by : (b : Bool) → cond b (Some (held (value g) ∷ map (λ part. held (value part)) ps)) None ≡ option_map (λ ns. held (value g) ∷ ns) (cond b (Some (map (λ part. held (value part)) ps)) None)
    by true = refl
    by false = refl

numbers_none : (g : List ℕ) (ps : List (List ℕ)) → is_canonical g ≡ false → numbers_of (g ∷ ps) ≡ None
numbers_none g ps e = rw e refl

numbers_stop : (s : Digits) (f : List ℕ) (x : ℕ) (ps : List (List ℕ)) → with_digit s x ≡ None → IsPart s f → numbers_of (with_front (f ++ x ∷ []) ps) ≡ None
numbers_stop s f x [] e h = numbers_none (f ++ x ∷ []) [] (stops s f x [] e h)
numbers_stop s f x (p ∷ ps) e h = numbers_none ((f ++ x ∷ []) ++ p) ps (rw append_assoc (stops s f x p e h))

abbrev behind : List ℕ → Option (List ℕ) → Option (List ℕ)
behind numbers found = option_map (λ ns. numbers ++ ns) found

behind_more : (numbers : List ℕ) (n : ℕ) (found : Option (List ℕ)) → behind (numbers ++ n ∷ []) found ≡ behind numbers (option_map (λ ns. n ∷ ns) found)
behind_more numbers n None = refl
behind_more numbers n (Some ns) = ap (λ (xs : List ℕ). Some xs) (append_assoc numbers (n ∷ []) ns)

fresh_part : IsPart fresh []
fresh_part = record { number = refl; empty = λ e. refl; canonical = λ e. absurd cc }

-- the last field
finish : (numbers : List ℕ) (s : Digits) (f : List ℕ) (b : Bool) → s.empty ≡ b → IsPart s f
    → cond b None (Some (numbers ++ s.number ∷ [])) ≡ behind numbers (numbers_of (f ∷ []))
finish numbers s f true e h = rw (numbers_none f [] (ends s f h ∙ ap not e)) refl
finish numbers s f false e h = rw (numbers_first f [] (ends s f h ∙ ap not e), h.number) refl

at_space : (numbers : List ℕ) (s : Digits) (f xs : List ℕ) → IsPart s f
    → scan (numbers ++ s.number ∷ []) fresh xs ≡ behind (numbers ++ s.number ∷ []) (numbers_of (slice_split is_space xs))
    → (b : Bool) → s.empty ≡ b → cond b None (scan (numbers ++ s.number ∷ []) fresh xs) ≡ behind numbers (numbers_of (f ∷ slice_split is_space xs))
at_space numbers s f xs h ih true e = rw (numbers_none f (slice_split is_space xs) (ends s f h ∙ ap not e)) refl
at_space numbers s f xs h ih false e =
    ih ∙ behind_more numbers s.number (numbers_of (slice_split is_space xs))
    ∙ ap (behind numbers) (rw h.number (sym (numbers_first f (slice_split is_space xs) (ends s f h ∙ ap not e))))

on_digit : (numbers : List ℕ) (s : Digits) (f : List ℕ) (x : ℕ) (xs : List ℕ) → IsPart s f
    → ((t : Digits) → IsPart t (f ++ x ∷ []) → scan numbers t xs ≡ behind numbers (numbers_of (with_front (f ++ x ∷ []) (slice_split is_space xs))))
    → (o : Option Digits) → with_digit s x ≡ o → option_and_then (λ next. scan numbers next xs) o ≡ behind numbers (numbers_of (with_front f (onto_first x (slice_split is_space xs))))
on_digit numbers s f x xs h ih None e = rw (with_front-onto_first f x (slice_split is_space xs), numbers_stop s f x (slice_split is_space xs) e h) refl
on_digit numbers s f x xs h ih (Some t) e = rw (with_front-onto_first f x (slice_split is_space xs)) (ih t (extends s t f x e h))

by_byte : (numbers : List ℕ) (s : Digits) (f : List ℕ) (x : ℕ) (xs : List ℕ) → IsPart s f
    → scan (numbers ++ s.number ∷ []) fresh xs ≡ behind (numbers ++ s.number ∷ []) (numbers_of (slice_split is_space xs))
    → ((t : Digits) → IsPart t (f ++ x ∷ []) → scan numbers t xs ≡ behind numbers (numbers_of (with_front (f ++ x ∷ []) (slice_split is_space xs))))
    → (b : Bool) → eqb x 32 ≡ b → scan numbers s (x ∷ xs) ≡ behind numbers (numbers_of (with_front f (slice_split is_space (x ∷ xs))))
by_byte numbers s f x xs h space digit true e = rw e (rw append-nil (at_space numbers s f xs h space s.empty refl))
by_byte numbers s f x xs h space digit false e = rw e (on_digit numbers s f x xs h digit (with_digit s x) refl)

pub scan_is : (numbers : List ℕ) (s : Digits) (f bytes : List ℕ) → IsPart s f
    → scan numbers s bytes ≡ behind numbers (numbers_of (with_front f (slice_split is_space bytes)))
scan_is numbers s f [] h = rw append-nil (finish numbers s f s.empty refl h)
scan_is numbers s f (x ∷ xs) h =
    by_byte numbers s f x xs h
    (scan_is (numbers ++ s.number ∷ []) fresh [] xs fresh_part ∙ ap (λ (ps : List (List ℕ)). behind (numbers ++ s.number ∷ []) (numbers_of ps)) (with_front-nil xs))
    (λ t part. scan_is numbers t (f ++ x ∷ []) xs part) (eqb x 32) refl

pub scan-fields : (line : List ℕ) → scan [] fresh line ≡ numbers_of (fields line)
unfolding fields
scan-fields line = scan_is [] fresh [] line fresh_part ∙ rw (with_front-nil line) (same (numbers_of (slice_split is_space line)))
  where
    same : (found : Option (List ℕ)) → behind [] found ≡ found
    same None = refl
    same (Some ns) = refl
