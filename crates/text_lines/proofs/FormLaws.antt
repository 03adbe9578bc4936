-- Lines of fixed words, lines of a word and a number, and sections: what is read is spelled so, and read again.
use Rattle.std.proofs.Common.{◌≡◌, Bool, true, false, ℕ, ◌^◌, ◌<◌, ◌≤◌, leb, List, [], ◌∷◌, ◌++◌, length, Option, None, Some, Result, Ok, ℤ, refl, sym, ap, subst, ◌∙◌, append_assoc, arith}
use Rattle.std.specs.Prelude.{decimal, nat_abs, option_to_list}
use Rattle.std.proofs.lemmas.Option.{same_Some}
use Rattle.std.specs.Fmt.{signed_decimal}
use lib.Signed.{mag}
use Rattle.std.specs.Str.{bytes_eq}
use Rattle.std.proofs.lemmas.Bool.{leb-true, le-leb}
use Rattle.std.proofs.lemmas.Slice.Eq.{bytes_eq-Decides}
use Rattle.text_lines.specs.declared.fault.LineCode.{LineCode}
use Rattle.text_lines.specs.declared.fault.LineCode.TheVariants.{Form, Number, Range}
use Rattle.text_lines.specs.declared.fault.TextFault.{TextFault}
use Rattle.text_lines.specs.declared.fault.ReadError.{ReadError}
use Rattle.text_lines.specs.Fields.{fields, with_spaces, two_of, three_or_four_of, five_of}
use Rattle.text_lines.specs.Forms.{fixed, in_form, needs, integer_from, number_from, number_after, number_of_fields, section_at, count_line, section_text}
use Rattle.text_lines.specs.Numbers.{is_canonical, is_canonical_signed, value, signed_value, size}
use Rattle.text_lines.specs.Reading.{◌>>=◌, Cursor, Gives, due, items_at, following}
use Rattle.text_lines.specs.Texts.{line_of, lines_of, AllAlong}
use Rattle.text_lines.proofs.NumberLaws.{number_takes, number_again, signed_takes, signed_again}
use Rattle.text_lines.proofs.TextLaws.{Spells, IsLine, bind_ok, ok_is, guard_ok, due_takes, due_again, items_takes, items_again}
use Rattle.text_lines.proofs.FieldLaws.{with_spaces-fields}
use Rattle.text_lines.proofs.WordLaws.{IsWord, fields-with_spaces, words_line, number_word, number_short, length-with_spaces_one, length-with_spaces_more}

-- what follows a step that was taken
pub gives_after : {X Y A : Type 0} (view : X → Y) (r : Result X ReadError) (now : Cursor) (first : Result A TextFault) (f : A → Result (Y × Cursor) TextFault) (a : A) → first ≡ Ok a → Gives view r now (f a) → Gives view r now (first >>= f)
gives_after view r now first f a e h = rw e h

-- a test that a line had to pass, and what was read behind it
pub needs_ok : {A : Type 0} (test : Bool) (code : LineCode) (then_read : Result A LineCode) (x : A) → (needs test code >>= λ _. then_read) ≡ Ok x → (test ≡ true) × (then_read ≡ Ok x)
needs_ok true code then_read x e = (refl, e)
needs_ok false code then_read x e = absurd cc

-- ---- fixed words

pub same_words : (a b : List ℕ) → bytes_eq a b ≡ true → a ≡ b
same_words a b = (bytes_eq-Decides a b).0

pub words_same : (a : List ℕ) → bytes_eq a a ≡ true
words_same a = (bytes_eq-Decides a a).1 refl

pub fixed_spells : (words : List ℕ) → IsLine words → Spells (λ before. fixed words) (λ before x. Unit {0}) (λ x. words)
fixed_spells words is = record {
  sound = λ before line x e. (tt, same_words line words (guard_ok (bytes_eq line words) Form (Ok tt) x e).0);
  complete = λ before x fits. rw (words_same words) refl;
  lines = λ before x fits. is;
}

-- ---- a word and a number

in_form_ok : {A : Type 0} (o : Option A) (x : A) → in_form o ≡ Ok x → o ≡ Some x
in_form_ok None x e = absurd cc
in_form_ok (Some y) x e = cc

pub number_from_takes : (least most : ℕ) (field : List ℕ) (n : ℕ) → most < 2 ^ 64 → number_from least most field ≡ Ok n → (field ≡ decimal n) × (least ≤ n) × (n ≤ most)
number_from_takes least most field n small e =
    let a = needs_ok (is_canonical field) Number (needs (leb (value field) most) Range >>= λ _. needs (leb least (value field)) Range >>= λ _. Ok (value field)) n e in
    let b = needs_ok (leb (value field) most) Range (needs (leb least (value field)) Range >>= λ _. Ok (value field)) n a.1 in
    let c = needs_ok (leb least (value field)) Range (Ok (value field)) n b.1 in
    let high = leb-true (value field) most b.0 in
    let low = leb-true least (value field) c.0 in
    let is : value field ≡ n = ok_is {E = LineCode} (value field) n c.1 in
    (number_takes field a.0 (omega (arith, high)) ∙ ap decimal is, omega (arith, low, is), omega (arith, high, is))

pub number_from_again : (least most n : ℕ) → n < 2 ^ 64 → least ≤ n → n ≤ most → number_from least most (decimal n) ≡ Ok n
number_from_again least most n small low high =
    let again = number_again n small in
    rw (again.0, again.1, le-leb n most high, le-leb least n low) refl

-- ---- signed numbers

pub integer_from_takes : (most : ℕ) (field : List ℕ) (z : ℤ) → most < 2 ^ 63 → integer_from most field ≡ Ok z → (field ≡ signed_decimal z) × (size field ≤ most) × (signed_value field ≡ z)
integer_from_takes most field z small e =
    let a = needs_ok (is_canonical_signed field) Number (needs (leb (size field) most) Range >>= λ _. Ok (signed_value field)) z e in
    let b = needs_ok (leb (size field) most) Range (Ok (signed_value field)) z a.1 in
    let high = leb-true (size field) most b.0 in
    let is : signed_value field ≡ z = ok_is {E = LineCode} (signed_value field) z b.1 in
    (signed_takes field a.0 (omega (arith, high)) ∙ ap signed_decimal is, high, is)

pub integer_from_again : (most : ℕ) (z : ℤ) → most < 2 ^ 63 → nat_abs z ≤ most → mag z < 2 ^ 63 → integer_from most (signed_decimal z) ≡ Ok z
integer_from_again most z small high low =
    let again = signed_again z low in
    rw (again.0, again.1, again.2, le-leb (nat_abs z) most high) refl

two_of_is : (parts : List (List ℕ)) (f : List ℕ × List ℕ) → two_of parts ≡ Some f → parts ≡ f.0 ∷ f.1 ∷ []
two_of_is [] f e = absurd cc
two_of_is (a ∷ []) f e = absurd cc
two_of_is (a ∷ b ∷ []) f e = cc
two_of_is (a ∷ b ∷ c ∷ parts) f e = absurd cc

-- two fields that a line has spell it
pub two_fields_spell : (line : List ℕ) (f : List ℕ × List ℕ) → in_form (two_of (fields line)) ≡ Ok f → line ≡ with_spaces (f.0 ∷ f.1 ∷ [])
two_fields_spell line f e = sym (with_spaces-fields line) ∙ ap with_spaces (two_of_is (fields line) f (in_form_ok (two_of (fields line)) f e))

three_or_four_of_is : (parts : List (List ℕ)) (f : List ℕ × List ℕ × List ℕ × Option (List ℕ)) → three_or_four_of parts ≡ Some f → parts ≡ f.0 ∷ f.1 ∷ f.2 ∷ option_to_list f.3
three_or_four_of_is [] f e = absurd cc
three_or_four_of_is (a ∷ []) f e = absurd cc
three_or_four_of_is (a ∷ b ∷ []) f e = absurd cc
three_or_four_of_is (a ∷ b ∷ c ∷ []) f e = subst (λ (g : List ℕ × List ℕ × List ℕ × Option (List ℕ)). a ∷ b ∷ c ∷ [] ≡ g.0 ∷ g.1 ∷ g.2 ∷ option_to_list g.3) (same_Some (a, b, c, None) f e) refl
three_or_four_of_is (a ∷ b ∷ c ∷ d ∷ []) f e = subst (λ (g : List ℕ × List ℕ × List ℕ × Option (List ℕ)). a ∷ b ∷ c ∷ d ∷ [] ≡ g.0 ∷ g.1 ∷ g.2 ∷ option_to_list g.3) (same_Some (a, b, c, Some d) f e) refl
three_or_four_of_is (a ∷ b ∷ c ∷ d ∷ x ∷ parts) f e = absurd cc

pub three_or_four_fields_spell : (line : List ℕ) (f : List ℕ × List ℕ × List ℕ × Option (List ℕ)) → in_form (three_or_four_of (fields line)) ≡ Ok f → line ≡ with_spaces (f.0 ∷ f.1 ∷ f.2 ∷ option_to_list f.3)
three_or_four_fields_spell line f e = sym (with_spaces-fields line) ∙ ap with_spaces (three_or_four_of_is (fields line) f (in_form_ok (three_or_four_of (fields line)) f e))

-- three fields, or four, are those of a line that spells them
pub three_or_four_of_again : (a b c : List ℕ) (d : Option (List ℕ)) → three_or_four_of (a ∷ b ∷ c ∷ option_to_list d) ≡ Some (a, b, c, d)
three_or_four_of_again a b c None = refl
three_or_four_of_again a b c (Some d) = refl

five_of_is : (parts : List (List ℕ)) (f : List ℕ × List ℕ × List ℕ × List ℕ × List ℕ) → five_of parts ≡ Some f → parts ≡ f.0 ∷ f.1 ∷ f.2 ∷ f.3 ∷ f.4 ∷ []
five_of_is [] f e = absurd cc
five_of_is (a ∷ []) f e = absurd cc
five_of_is (a ∷ b ∷ []) f e = absurd cc
five_of_is (a ∷ b ∷ c ∷ []) f e = absurd cc
five_of_is (a ∷ b ∷ c ∷ d ∷ []) f e = absurd cc
five_of_is (a ∷ b ∷ c ∷ d ∷ x ∷ []) f e = cc
five_of_is (a ∷ b ∷ c ∷ d ∷ x ∷ y ∷ parts) f e = absurd cc

pub five_fields_spell : (line : List ℕ) (f : List ℕ × List ℕ × List ℕ × List ℕ × List ℕ) → in_form (five_of (fields line)) ≡ Ok f → line ≡ with_spaces (f.0 ∷ f.1 ∷ f.2 ∷ f.3 ∷ f.4 ∷ [])
five_fields_spell line f e = sym (with_spaces-fields line) ∙ ap with_spaces (five_of_is (fields line) f (in_form_ok (five_of (fields line)) f e))

pub number_after_takes : (word : List ℕ) (least most : ℕ) (line : List ℕ) (n : ℕ) → most < 2 ^ 64 → number_after word least most line ≡ Ok n → (line ≡ count_line word n) × (least ≤ n) × (n ≤ most)
unfolding number_after count_line
number_after_takes word least most line n small e =
    let a = bind_ok (in_form (two_of (fields line))) (λ f. number_of_fields word least most f) n e in
    let b = needs_ok (bytes_eq a.0.0 word) Form (number_from least most a.0.1) n a.2 in
    let t = number_from_takes least most a.0.1 n small b.1 in
    (two_fields_spell line a.0 a.1 ∙ rw (same_words a.0.0 word b.0, t.0) refl, t.1, t.2)

pub number_after_again : (word : List ℕ) (least most n : ℕ) → IsWord word → n < 2 ^ 64 → least ≤ n → n ≤ most → number_after word least most (count_line word n) ≡ Ok n
unfolding number_after count_line
number_after_again word least most n is small low high =
    rw (fields-with_spaces word (decimal n ∷ []) (is, (number_word n small, tt)), words_same word) (number_from_again least most n small low high)

pub count_line_is : (word : List ℕ) (n : ℕ) → IsWord word → length word ≤ 1000 → n < 2 ^ 64 → IsLine (count_line word n)
unfolding count_line
count_line_is word n is short small =
    words_line (word ∷ decimal n ∷ []) (is, (number_word n small, tt)) (omega (arith, length-with_spaces_more word (decimal n) [], length-with_spaces_one (decimal n), number_short n small))

pub number_after_spells : (word : List ℕ) (least most : ℕ) → IsWord word → length word ≤ 1000 → most < 2 ^ 64 → Spells (λ before. number_after word least most) (λ before n. (least ≤ n) × (n ≤ most)) (λ n. count_line word n)
number_after_spells word least most is short small = record {
  sound = λ before line n e. let t = number_after_takes word least most line n small e in ((t.1, t.2), t.0);
  complete = λ before n fits. number_after_again word least most n is (omega (arith, fits.1)) fits.0 fits.1;
  lines = λ before n fits. count_line_is word n is short (omega (arith, fits.1));
}

-- ---- sections

-- what a section is read as
pub record TakesSection {A : Type 0} (word : List ℕ) (fits : List A → A → Type 0) (spell : A → List ℕ) (least most : ℕ) (items : List A) (bytes rest : List ℕ) : Type 0 where
  pub low : least ≤ length items
  pub high : length items ≤ most
  pub along : AllAlong fits [] items
  pub parts : bytes ≡ section_text word spell items ++ rest

pub section_takes : {A : Type 0} (word : List ℕ) (least most : ℕ) (read : List A → List ℕ → Result A LineCode) (fits : List A → A → Type 0) (spell : A → List ℕ) (spells : Spells read fits spell) → most < 2 ^ 64
    → (at rest : Cursor) (items : List A) → section_at word least most read at ≡ Ok (items, rest) → TakesSection word fits spell least most items at.bytes rest.bytes
unfolding section_at section_text
section_takes {A} word least most read fits spell spells small at rest items e =
    let a = bind_ok (due (number_after word least most) at) (λ count. items_at read count.0 [] count.1) (items, rest) e in
    let head = due_takes (number_after word least most) at a.0.1 a.0.0 a.1 in
    let n = number_after_takes word least most head.0 a.0.0 small head.1 in
    let t = items_takes read fits spell spells a.0.0 [] items a.0.1 rest a.2 in
    let all : items ≡ t.0 = t.1.behind in
    let count : a.0.0 ≡ length items = sym t.1.count ∙ ap length (sym all) in
    record {
      low = omega (arith, n.1, count);
      high = omega (arith, n.2, count);
      along = rw all t.1.along;
      parts = head.2 ∙ rw (n.0, count, t.1.parts, ← all) (sym (append_assoc (line_of (count_line word (length items))) (lines_of spell items) rest.bytes));
    }

pub section_again : {A : Type 0} (word : List ℕ) (least most : ℕ) (read : List A → List ℕ → Result A LineCode) (fits : List A → A → Type 0) (spell : A → List ℕ) (spells : Spells read fits spell) → IsWord word → length word ≤ 1000 → most < 2 ^ 64
    → (items : List A) (number : ℕ) (rest : List ℕ) → least ≤ length items → length items ≤ most → AllAlong fits [] items
    → (m : ℕ) × (section_at word least most read (record { number = number; bytes = section_text word spell items ++ rest }) ≡ Ok (items, record { number = m; bytes = rest }))
unfolding section_at section_text
section_again word least most read fits spell spells is short small items number rest low high along =
    let n = length items in
    let head = due_again (number_after word least most) number (count_line word n) (lines_of spell items ++ rest) n (count_line_is word n is short (omega (arith, high))) (number_after_again word least most n is (omega (arith, high)) low high) in
    let t = items_again read fits spell spells [] items (following number) rest along in
    (t.0, rw append_assoc (rw head t.1))
