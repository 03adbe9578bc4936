-- The lines of prices, shares and the total: what is read is spelled so, and what is spelled so is read again.
use Rattle.std.proofs.Common.{◌≡◌, ℕ, ◌^◌, ◌<◌, ◌≤◌, Bool, true, false, eqb, List, [], ◌∷◌, length, Option, None, Some, Ok, ℤ, pos, negsuc, refl, sym, ap, subst, ◌∙◌, arith, rules, lit<}
use Rattle.std.specs.Prelude.{decimal, codes, nat_abs}
use Rattle.std.specs.Fmt.{signed_decimal}
use Rattle.std.specs.Str.{bytes_eq}
use Rattle.std.proofs.lemmas.Int.{ints}
use Rattle.std.proofs.lemmas.Str.{IsUtf8-from_ascii}
use lib.Signed.{mag}
use Rattle.match_rules.specs.declared.rules.TheConstants.{RULES_TICKETS}
use Rattle.match_rules.specs.Answers.{IsWithin, most_price, most_total}
use Rattle.text_lines.specs.declared.lines.TheConstants.{LONGEST_LINE}
use Rattle.text_lines.specs.declared.fault.LineCode.TheVariants.{Form}
use Rattle.text_lines.specs.Fields.{fields, with_spaces, one_of, two_of}
use Rattle.text_lines.specs.Forms.{in_form, integer_from, number_from}
use Rattle.text_lines.specs.Numbers.{signed_value, size, value}
use Rattle.text_lines.proofs.FormLaws.{needs_ok, integer_from_takes, integer_from_again, number_from_takes, number_from_again, two_fields_spell, same_words}
use Rattle.text_lines.proofs.TextLaws.{Spells, IsLine, bind_ok}
use Rattle.text_lines.proofs.FieldLaws.{with_spaces-fields}
use Rattle.text_lines.proofs.WordLaws.{IsWord, fields-with_spaces, words_line, number_word, number_short, signed_word, signed_short, length-with_spaces_one, length-with_spaces_more}
use Rattle.publication.specs.AnswerForms.{price_of, share_of, total_of, total_in, total_line}

-- ---- signed numbers within a limit

pub within_size : (ds : List ℕ) (most : ℕ) → size ds ≤ most → IsWithin most (signed_value ds)
within_size [] most h = (omega (arith, ints), omega (arith, ints))
within_size (b ∷ bs) most h = by (eqb b 45) refl
  where
    by : (z : Bool) → eqb b 45 ≡ z → IsWithin most (signed_value (b ∷ bs))
    by true e =
        let low : value bs ≤ most = rw e at h in
        rw e (omega (arith, ints, low), omega (arith, ints))
    by false e =
        let low : value (b ∷ bs) ≤ most = rw e at h in
        rw e (omega (arith, ints), omega (arith, ints, low))

pub abs_within : (most : ℕ) (z : ℤ) → IsWithin most z → nat_abs z ≤ most
abs_within most (pos n) h = omega (arith, ints, h.1)
abs_within most (negsuc n) h = omega (arith, ints, h.0)

pub mag_within : (most : ℕ) (z : ℤ) → IsWithin most z → mag z ≤ most
mag_within most (pos n) h = omega (arith, ints, h.1)
mag_within most (negsuc n) h = omega (arith, ints, h.0)

pub within_takes : (most : ℕ) (field : List ℕ) (z : ℤ) → most < 2 ^ 63 → integer_from most field ≡ Ok z → (field ≡ signed_decimal z) × IsWithin most z
within_takes most field z small e =
    let t = integer_from_takes most field z small e in
    (t.0, subst (λ (z : ℤ). IsWithin most z) t.2 (within_size field most t.1))

pub within_again : (most : ℕ) (z : ℤ) → most < 2 ^ 63 → IsWithin most z → integer_from most (signed_decimal z) ≡ Ok z
within_again most z small h = integer_from_again most z small (abs_within most z h) (omega (arith, mag_within most z h))

-- ---- lines of one field

in_form_ok : {A : Type 0} (o : Option A) (x : A) → in_form o ≡ Ok x → o ≡ Some x
in_form_ok None x e = absurd cc
in_form_ok (Some y) x e = cc

one_of_is : (parts : List (List ℕ)) (f : List ℕ) → one_of parts ≡ Some f → parts ≡ f ∷ []
one_of_is [] f e = absurd cc
one_of_is (a ∷ []) f e = cc
one_of_is (a ∷ b ∷ parts) f e = absurd cc

with_one : (w : List ℕ) → with_spaces (w ∷ []) ≡ w
unfolding with_spaces
with_one w = refl

one_field_spell : (line f : List ℕ) → in_form (one_of (fields line)) ≡ Ok f → line ≡ f
one_field_spell line f e = sym (with_spaces-fields line) ∙ ap with_spaces (one_of_is (fields line) f (in_form_ok (one_of (fields line)) f e)) ∙ with_one f

fields_one : (w : List ℕ) → IsWord w → fields w ≡ w ∷ []
fields_one w is = subst (λ (line : List ℕ). fields line ≡ w ∷ []) (with_one w) (fields-with_spaces w [] (is, tt))

line_one : (w : List ℕ) → IsWord w → length w ≤ LONGEST_LINE → IsLine w
line_one w is short = subst (λ (line : List ℕ). IsLine line) (with_one w) (words_line (w ∷ []) (is, tt) (rw (with_one w) short))

-- ---- prices

pub price_spells : Spells {A = ℤ} (λ before. price_of) (λ before z. IsWithin most_price z) signed_decimal
unfolding price_of
price_spells = record {
  sound = λ before line z e.
      let a = bind_ok (in_form (one_of (fields line))) (integer_from most_price) z e in
      let t = within_takes most_price a.0 z (lit< tt) a.2 in
      (t.1, one_field_spell line a.0 a.1 ∙ t.0);
  complete = λ before z h.
      let small : mag z < 2 ^ 63 = omega (arith, mag_within most_price z h) in
      rw (fields_one (signed_decimal z) (signed_word z small)) (within_again most_price z (lit< tt) h);
  lines = λ before z h.
      let small : mag z < 2 ^ 63 = omega (arith, mag_within most_price z h) in
      line_one (signed_decimal z) (signed_word z small) (omega (arith, signed_short z small));
}

-- ---- shares

pub share_spells : Spells {A = ℕ} (λ before. share_of) (λ before n. n ≤ RULES_TICKETS) decimal
unfolding share_of
share_spells = record {
  sound = λ before line n e.
      let a = bind_ok (in_form (one_of (fields line))) (number_from 0 RULES_TICKETS) n e in
      let t = number_from_takes 0 RULES_TICKETS a.0 n (lit< tt) a.2 in
      (t.2, one_field_spell line a.0 a.1 ∙ t.0);
  complete = λ before n h.
      rw (fields_one (decimal n) (number_word n (omega (arith, h)))) (number_from_again 0 RULES_TICKETS n (omega (arith, h)) (omega arith) h);
  lines = λ before n h. line_one (decimal n) (number_word n (omega (arith, h))) (omega (arith, number_short n (omega (arith, h))));
}

-- ---- the total

pub total_word : IsWord (codes "total")
total_word = record { text = IsUtf8-from_ascii (codes "total") (search rules); spaces = (refl, (refl, (refl, (refl, (refl, tt))))); feeds = (refl, (refl, (refl, (refl, (refl, tt))))) }

pub total_spells : Spells {A = ℤ} (λ before. total_of) (λ before z. IsWithin most_total z) total_line
unfolding total_of total_line
total_spells = record {
  sound = λ before line z e.
      let a = bind_ok (in_form (two_of (fields line))) total_in z e in
      let b = needs_ok (bytes_eq a.0.0 (codes "total")) Form (integer_from most_total a.0.1) z a.2 in
      let t = within_takes most_total a.0.1 z (lit< tt) b.1 in
      (t.1, two_fields_spell line a.0 a.1 ∙ rw (same_words a.0.0 (codes "total") b.0, t.0) refl);
  complete = λ before z h.
      let small : mag z < 2 ^ 63 = omega (arith, mag_within most_total z h) in
      rw (fields-with_spaces (codes "total") (signed_decimal z ∷ []) (total_word, (signed_word z small, tt))) (within_again most_total z (lit< tt) h);
  lines = λ before z h.
      let small : mag z < 2 ^ 63 = omega (arith, mag_within most_total z h) in
      words_line (codes "total" ∷ signed_decimal z ∷ []) (total_word, (signed_word z small, tt)) (omega (arith, length-with_spaces_more (codes "total") (signed_decimal z) [], length-with_spaces_one (signed_decimal z), signed_short z small));
}
