-- The computed answer is the one that the grammar gives, and the grammar gives no other.
use Rattle.std.proofs.Common.{◌≡◌, ℕ, suc, ◌+◌, ◌-◌, ◌*◌, ◌<◌, inl, inr, List, [], ◌∷◌, ◌++◌, length, take, Option, Some, None, Result, Ok, Err, Bool, true, false, ℤ, refl, sym, ap, ◌∙◌, subst, arith, length-append, append-nil}
use Rattle.std.specs.Prelude.{nat_lt, nat_le, ◌&&◌, if◌then◌else◌, IfSome}
use Rattle.std.proofs.lemmas.Bool.{lt-ltb, ltb-true, le-leb, lt-leb, cases_lt, cases_order, false≢true}
use Rattle.std.proofs.Math.Seq.{take-append_seam, take-append-add, take-length}
use Rattle.score_spec.specs.declared.numbers.NumberFault.{NumberFault}
use Rattle.score_spec.specs.declared.numbers.NumberFault.TheVariants.{BadNumber, OutOfRange}
use Rattle.score_spec.specs.Spelling.{Exponent, Spelling, text_of, mantissa, IsExponent, IsSpelling, BeginsValueText, top, bottom, IsBadPlace, MeetsGrammar}
use Rattle.score_spec.specs.Reading.{spell, unwritten, has_exponent_digits, is_complete, value_in_range, answer_to, read_as}
use Rattle.score_spec.proofs.Spellings.{IsPart, IsPartExponent, Grows, Stops, stops_at, reads_through, reads, begins, no_further}

and-parts : (a b : Bool) → a && b ≡ true → (a ≡ true) × (b ≡ true)
and-parts true b h = (refl, h)
and-parts false b h = absurd (cc)

complete-power : (x : Option Exponent) → IfSome x IsPartExponent → has_exponent_digits x ≡ true → IfSome x IsExponent
complete-power None part h = tt
complete-power (Some e) part h = record { letter = part.letter; digits = part.digits; some = ltb-true 0 (length e.digits) h; few = part.few }

complete-spelled : (s : Spelling) → IsPart s → is_complete s ≡ true → IsSpelling s
complete-spelled s part h =
    let two = and-parts (nat_lt 0 (length (mantissa s))) (has_exponent_digits s.exponent) h in
    record { digits = part.digits; some = ltb-true 0 (length (mantissa s)) two.0; few = part.few; exponent = complete-power s.exponent part.exponent two.1 }

power-complete : (x : Option Exponent) → IfSome x IsExponent → has_exponent_digits x ≡ true
power-complete None given = refl
power-complete (Some e) given = lt-ltb 0 (length e.digits) given.some

spelled-complete : (s : Spelling) → IsSpelling s → is_complete s ≡ true
spelled-complete s spelled =
    let some : nat_lt 0 (length (mantissa s)) ≡ true = lt-ltb 0 (length (mantissa s)) spelled.some in
    let power = power-complete s.exponent spelled.exponent in
    rw (some, power) refl

-- the reading of a value text
read-value_text : (text : List ℕ) (s : Spelling) → IsSpelling s → text ≡ text_of s → spell 0 unwritten text ≡ Ok s
read-value_text text s spelled same = ap (spell 0 unwritten) same ∙ reads s spelled 0

stopped : (text : List ℕ) (stop : ℕ) → Stops unwritten text stop → IsBadPlace text stop
stopped text stop w =
    let text_is : text ≡ w.front ++ w.byte ∷ w.rest = w.split in
    let size : length text ≡ length w.front + suc (length w.rest) = ap length text_is ∙ length-append w.front (w.byte ∷ w.rest) in
    let front_is : take stop text ≡ w.front = rw (w.count_is, text_is) (take-append_seam w.front (w.byte ∷ w.rest)) in
    record {
      refused = λ value. no_further w.front w.rest w.byte w.last w.reads w.stuck [] (value.0, (value.1.0, append-nil (w.front ++ w.byte ∷ w.rest) ∙ sym text_is ∙ value.1.1));
      within = omega (arith, w.count_is);
      begins = subst BeginsValueText (w.text ∙ sym front_is) (begins w.last w.part);
      longest = λ n above below value.
          let k = n - (stop + 1) in
          let n_is : n ≡ length w.front + suc k = omega (arith, w.count_is) in
          let longer : take n text ≡ w.front ++ w.byte ∷ take k w.rest = ap (λ m. take m text) n_is ∙ ap (λ xs. take (length w.front + suc k) xs) text_is ∙ take-append-add w.front (w.byte ∷ w.rest) (suc k) in
          no_further w.front (take k w.rest) w.byte w.last w.reads w.stuck value.0 (value.1.0, (value.1.1.0, ap (λ xs. xs ++ value.0) (sym longer) ∙ value.1.1.1));
    }

-- a text that ends too early
unfinished : (text : List ℕ) (t : Spelling) → spell 0 unwritten text ≡ Ok t → Grows unwritten text t → is_complete t ≡ false → IsBadPlace text (length text)
unfinished text t read grown h = record {
  refused = λ value.
      let same : Ok t ≡ Ok value.0 = sym read ∙ read-value_text text value.0 value.1.0 value.1.1 in
      let complete = spelled-complete value.0 value.1.0 in
      let is : t ≡ value.0 = cc in
      false≢true (sym h ∙ ap is_complete is ∙ complete);
  within = omega arith;
  begins = subst BeginsValueText (grown.text ∙ sym (take-length text)) (begins t grown.part);
  longest = λ n above below value. absurd (omega arith);
}

valued : (text : List ℕ) (t : Spelling) → text ≡ text_of t → IsSpelling t → MeetsGrammar text (value_in_range t)
valued text t text_is spelled =
    elim (cases_lt (100000 * bottom t) (top t)) [
      | inl large ↦ let test : nat_le (top t) (100000 * bottom t) ≡ false = lt-leb (top t) (100000 * bottom t) large in
          rw test (t, (spelled, text_is, (λ within. absurd (omega arith))))
      | inr within ↦ let test : nat_le (top t) (100000 * bottom t) ≡ true = le-leb (top t) (100000 * bottom t) within in
          rw test (t, (spelled, text_is, within, refl))
    ]

meets-answer : (text : List ℕ) (r : Result Spelling ℕ) → spell 0 unwritten text ≡ r → MeetsGrammar text (answer_to (length text) r)
meets-answer text (Err stop) e = stopped text stop (stops_at stop text e)
meets-answer text (Ok t) e = on (is_complete t) refl
  where
    grown : Grows unwritten text t
    grown = reads_through t text e

    on : (c : Bool) → is_complete t ≡ c → MeetsGrammar text (if c then value_in_range t else Err (BadNumber (length text)))
    on true h = valued text t (sym grown.text) (complete-spelled t grown.part h)
    on false h = unfinished text t e grown h

pub meets : (text : List ℕ) → MeetsGrammar text (read_as text)
unfolding read_as
meets text = meets-answer text (spell 0 unwritten text) refl

bad-only : (text : List ℕ) (place : ℕ) (r : Result ℤ NumberFault) → IsBadPlace text place → MeetsGrammar text r → Err (BadNumber place) ≡ r
bad-only text place (Ok value) bad m = absurd (bad.refused (m.0, (m.1.0, m.1.1)))
bad-only text place (Err OutOfRange) bad m = absurd (bad.refused (m.0, (m.1.0, m.1.1)))
bad-only text place (Err (BadNumber other)) bad m =
    elim (cases_order place other) [
      | inl same ↦ ap (λ p. Err (BadNumber p)) same
      | inr w ↦ elim w [
        | inl less ↦ absurd (bad.longest other less m.within m.begins)
        | inr more ↦ absurd (m.longest place more bad.within bad.begins)
      ]
    ]

pub only : (text : List ℕ) (other : Result ℤ NumberFault) → MeetsGrammar text other → other ≡ read_as text
unfolding read_as
only text (Ok value) m =
    let read = read-value_text text m.0 m.1.0 m.1.1 in
    let complete = spelled-complete m.0 m.1.0 in
    let test : nat_le (top m.0) (100000 * bottom m.0) ≡ true = le-leb (top m.0) (100000 * bottom m.0) m.1.2 in
    rw (read, complete, test) (ap Ok m.1.3)
only text (Err OutOfRange) m =
    let read = read-value_text text m.0 m.1.0 m.1.1 in
    let complete = spelled-complete m.0 m.1.0 in
    let large : 100000 * bottom m.0 < top m.0 = elim (cases_lt (100000 * bottom m.0) (top m.0)) [ inl h ↦ h | inr h ↦ absurd (m.1.2 h) ] in
    let test : nat_le (top m.0) (100000 * bottom m.0) ≡ false = lt-leb (top m.0) (100000 * bottom m.0) large in
    rw (read, complete, test) refl
only text (Err (BadNumber place)) m = bad-only text place (answer_to (length text) (spell 0 unwritten text)) m (meets-answer text (spell 0 unwritten text) refl)
