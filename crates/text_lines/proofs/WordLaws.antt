-- Fields without spaces and line feeds, and the lines that they make.
use Rattle.std.proofs.Common.{◌≡◌, ℕ, zero, suc, ◌+◌, ◌^◌, ◌<◌, ◌≤◌, ◌≢◌, true, false, not, eqb, ltb, List, [], ◌∷◌, ◌++◌, length, get_or, ℤ, pos, negsuc, refl, ap, ◌∙◌, arith, lit<}
use Rattle.std.specs.Prelude.{decimal}
use Rattle.std.specs.Fmt.{signed_decimal}
use Rattle.std.specs.Int.{IsInRange}
use Rattle.std.specs.List.{list_all}
use Rattle.std.proofs.lemmas.List.Sums.{AllPass-from_list_all}
use Rattle.std.specs.Str.{IsUtf8, NoCharPasses}
use Rattle.std.proofs.lemmas.Bool.{ne_eqb, ltb-true, and_parts, not-true}
use Rattle.std.proofs.lemmas.Fmt.{digits_decimal, IsAscii-decimal, IsAscii-signed, length-decimal-le, length_signed_le}
use Rattle.std.proofs.lemmas.List.{length-append}
use Rattle.std.proofs.lemmas.List.Splits.{slice_split_none, slice_split_at}
use Rattle.std.proofs.lemmas.Str.{IsUtf8-append, IsUtf8-from_ascii, IsUtf8-nil}
use Rattle.std.proofs.lemmas.Str.Ascii.{IsAscii-cons, IsAscii-nil, IsAscii-from_all}
use Rattle.std.proofs.lemmas.Str.Parse.{not_in_digits}
use Rattle.std.proofs.lemmas.Str.Pattern.{NoCharPasses-char}
use lib.Signed.{mag}
use Rattle.text_lines.specs.declared.lines.TheConstants.{LONGEST_LINE}
use Rattle.text_lines.specs.Fields.{is_space, fields, with_spaces}
use Rattle.text_lines.proofs.LineLaws.{IsPlain}
use Rattle.text_lines.proofs.NumberLaws.{numerals}
use Rattle.text_lines.proofs.TextLaws.{IsLine}

-- the byte isn't in the list
abbrev pub Lacks : ℕ → List ℕ → Type 0
Lacks b [] = Unit {0}
Lacks b (x ∷ xs) = (eqb x b ≡ false) × Lacks b xs

pub Lacks-append : (b : ℕ) (xs ys : List ℕ) → Lacks b xs → Lacks b ys → Lacks b (xs ++ ys)
Lacks-append b [] ys p q = q
Lacks-append b (x ∷ xs) ys p q = (p.0, Lacks-append b xs ys p.1 q)

pub Lacks-from_index : (b : ℕ) (xs : List ℕ) → ((i : ℕ) → i < length xs → get_or xs i 0 ≢ b) → Lacks b xs
Lacks-from_index b [] h = tt
Lacks-from_index b (x ∷ xs) h = (ne_eqb x b (h 0 (omega arith)), Lacks-from_index b xs (λ i lt. h (suc i) (omega arith)))

lacks_at : (b : ℕ) (xs : List ℕ) (k d : ℕ) → Lacks b xs → k < length xs → eqb (get_or xs k d) b ≡ false
lacks_at b [] k d h lt = absurd (omega arith)
lacks_at b (x ∷ xs) zero d h lt = h.0
lacks_at b (x ∷ xs) (suc k) d h lt = lacks_at b xs k d h.1 (omega arith)

pub plain_from : (xs : List ℕ) → Lacks 10 xs → IsPlain xs
plain_from [] h = refl
plain_from (x ∷ xs) h = rw (h.0, plain_from xs h.1) (omega arith)

-- a text that may stand as a field
pub record IsWord (word : List ℕ) : Type 0 where
  pub text : IsUtf8 word
  pub spaces : Lacks 32 word
  pub feeds : Lacks 10 word

abbrev pub AllWords : List (List ℕ) → Type 0
AllWords [] = Unit {0}
AllWords (w ∷ ws) = IsWord w × AllWords ws

-- the fields of a line of words are these words
pub fields-with_spaces : (w : List ℕ) (ws : List (List ℕ)) → AllWords (w ∷ ws) → fields (with_spaces (w ∷ ws)) ≡ w ∷ ws
unfolding fields with_spaces
fields-with_spaces w [] all = slice_split_none is_space w (λ k d lt. lacks_at 32 w k d all.0.spaces lt)
fields-with_spaces w (x ∷ ws) all =
    slice_split_at is_space w 32 (with_spaces (x ∷ ws)) (λ k d lt. lacks_at 32 w k d all.0.spaces lt) refl ∙ ap (λ (parts : List (List ℕ)). w ∷ parts) (fields-with_spaces x ws all.1)

feeds_of : (ws : List (List ℕ)) → AllWords ws → Lacks 10 (with_spaces ws)
unfolding with_spaces
feeds_of [] all = tt
feeds_of (w ∷ []) all = all.0.feeds
feeds_of (w ∷ x ∷ ws) all = Lacks-append 10 w (32 ∷ with_spaces (x ∷ ws)) all.0.feeds (refl, feeds_of (x ∷ ws) all.1)

space_text : IsUtf8 (32 ∷ [])
space_text = IsUtf8-from_ascii (32 ∷ []) (IsAscii-cons 32 [] (lit< tt) IsAscii-nil)

text_of : (ws : List (List ℕ)) → AllWords ws → IsUtf8 (with_spaces ws)
unfolding with_spaces
text_of [] all = IsUtf8-nil
text_of (w ∷ []) all = all.0.text
text_of (w ∷ x ∷ ws) all = IsUtf8-append w (32 ∷ with_spaces (x ∷ ws)) all.0.text (IsUtf8-append (32 ∷ []) (with_spaces (x ∷ ws)) space_text (text_of (x ∷ ws) all.1))

-- a line of words that is short enough may stand in a text
pub words_line : (ws : List (List ℕ)) → AllWords ws → length (with_spaces ws) ≤ LONGEST_LINE → IsLine (with_spaces ws)
words_line ws all short = record { plain = plain_from (with_spaces ws) (feeds_of ws all); short = short; text = text_of ws all }

-- how long a line of words is
pub length-with_spaces_one : (w : List ℕ) → length (with_spaces (w ∷ [])) ≡ length w
unfolding with_spaces
length-with_spaces_one w = refl

pub length-with_spaces_more : (w x : List ℕ) (ws : List (List ℕ)) → length (with_spaces (w ∷ x ∷ ws)) ≡ length w + 1 + length (with_spaces (x ∷ ws))
unfolding with_spaces
length-with_spaces_more w x ws = omega (arith, length-append w (32 ∷ with_spaces (x ∷ ws)))

-- ---- numbers as words

not_digit : (c : ℕ) → c < 48 → ¬ (IsInRange 48 57 c)
not_digit c small h = omega (arith, h.0)

pub number_word : (n : ℕ) → n < 2 ^ 64 → IsWord (decimal n)
number_word n small = record {
  text = IsUtf8-from_ascii (decimal n) (IsAscii-decimal n small);
  spaces = Lacks-from_index 32 (decimal n) (not_in_digits numerals (decimal n) 32 (digits_decimal numerals n small) (not_digit 32 (lit< tt)));
  feeds = Lacks-from_index 10 (decimal n) (not_in_digits numerals (decimal n) 10 (digits_decimal numerals n small) (not_digit 10 (lit< tt)));
}

pub number_short : (n : ℕ) → n < 2 ^ 64 → length (decimal n) ≤ 20
number_short n small = length-decimal-le 20 n (lit< tt) (omega arith) small

pub signed_word : (z : ℤ) → mag z < 2 ^ 63 → IsWord (signed_decimal z)
signed_word (pos n) small = number_word n (omega arith)
signed_word (negsuc n) small =
    let rest = number_word (suc n) (omega arith) in
    record { text = IsUtf8-from_ascii (signed_decimal (negsuc n)) (IsAscii-signed (negsuc n) small); spaces = (refl, rest.spaces); feeds = (refl, rest.feeds) }

pub signed_short : (z : ℤ) → mag z < 2 ^ 63 → length (signed_decimal z) ≤ 21
signed_short z small = length_signed_le 20 z (omega arith) small

-- ---- texts of characters

-- a text none of whose characters is the one of an ASCII byte lacks the byte
pub Lacks-from_chars : (b : ℕ) (bs : List ℕ) → b < 128 → NoCharPasses (λ d. eqb d b) bs → Lacks b bs
Lacks-from_chars b bs small h = Lacks-from_index b bs (λ i lt. NoCharPasses-char b bs i h small lt)

-- ---- words and lines of ASCII, by a test that computes

pub ascii_text : (bs : List ℕ) → list_all (λ b. ltb b 128) bs ≡ true → IsUtf8 bs
ascii_text bs e = IsUtf8-from_ascii bs (IsAscii-from_all bs (λ k d lt. ltb-true _ _ (AllPass-from_list_all (λ b. ltb b 128) bs e k d lt)))

lacks_by : (b : ℕ) (bs : List ℕ) → list_all (λ x. not (eqb x b)) bs ≡ true → Lacks b bs
lacks_by b [] e = tt
lacks_by b (x ∷ xs) e =
    let p = and_parts (not (eqb x b)) (list_all (λ y. not (eqb y b)) xs) e in
    (not-true (eqb x b) p.0, lacks_by b xs p.1)

-- a word of ASCII
pub ascii_word : (w : List ℕ) → list_all (λ b. ltb b 128) w ≡ true → list_all (λ b. not (eqb b 32)) w ≡ true → list_all (λ b. not (eqb b 10)) w ≡ true → IsWord w
ascii_word w text spaces feeds = record { text = ascii_text w text; spaces = lacks_by 32 w spaces; feeds = lacks_by 10 w feeds }

-- a line of ASCII
pub ascii_line : (w : List ℕ) → list_all (λ b. ltb b 128) w ≡ true → list_all (λ b. not (eqb b 10)) w ≡ true → length w ≤ 1000 → IsLine w
ascii_line w text feeds short = record { plain = plain_from w (lacks_by 10 w feeds); short = omega arith; text = ascii_text w text }
