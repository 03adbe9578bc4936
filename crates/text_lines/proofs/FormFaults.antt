-- Lines of fixed words, lines of a word and a number, and sections go along with what is due.
use Rattle.std.proofs.Common.{◌≡◌, ℕ, suc, Bool, true, false, eqb, leb, List, [], ◌∷◌, Option, None, Result, Ok, refl, arith}
use Rattle.std.specs.Prelude.{◌&&◌}
use Rattle.std.specs.Str.{bytes_eq}
use Rattle.std.proofs.lemmas.Bool.{ne_eqb}
use Rattle.text_lines.specs.declared.fault.LineCode.{LineCode}
use Rattle.text_lines.specs.declared.fault.LineCode.TheVariants.{Form, Number, Range}
use Rattle.text_lines.specs.FirstFault.{words_then, count_then, lines_then, section_then}
use Rattle.text_lines.specs.Fields.{fields, two_of}
use Rattle.text_lines.specs.Forms.{fixed, in_form, needs, number_from, number_after, number_of_fields, section_at}
use Rattle.text_lines.specs.LineTests.{LineTests, first_of, count_tests, count_parts, count_of, words_tests, part, unless}
use Rattle.text_lines.specs.Numbers.{is_canonical, value}
use Rattle.text_lines.specs.Reading.{◌>>=◌, due, items_at}
use Rattle.text_lines.proofs.FaultLaws.{Agrees, IsAgreed, Tracks, by_test, tracks_due, tracks_items, tracks_then}

-- ---- tests that a line needs

pub agrees_needs : {A : Type 0} (test : Bool) (code : LineCode) (r : Result A LineCode) (others : Option LineCode) (item : A) → (test ≡ true → IsAgreed r others item) → IsAgreed (needs test code >>= λ _. r) (unless test code others) item
agrees_needs true code r others item h = h refl
agrees_needs false code r others item h = refl

pub agrees_both : {A : Type 0} (first second : Bool) (code : LineCode) (r : Result A LineCode) (others : Option LineCode) (item : A) → (first ≡ true → IsAgreed r (unless second code others) item) → IsAgreed (needs first code >>= λ _. r) (unless (first && second) code others) item
agrees_both true second code r others item h = h refl
agrees_both false second code r others item h = refl

-- ---- one line

pub words_agree : (words : List ℕ) → Agrees (fixed words) (words_tests words) (λ line. tt)
words_agree words line = by_test (bytes_eq line words) (λ same. rw same (refl, refl)) (λ other. rw other refl)

-- four and more are neither of these
pub many_parts : (n : ℕ) → eqb (suc (suc (suc n))) 2 ≡ false
many_parts n = ne_eqb (suc (suc (suc n))) 2 (omega arith)

number_from_agrees : (least most : ℕ) (field : List ℕ) → IsAgreed (number_from least most field) (unless (is_canonical field) Number (unless (leb (value field) most && leb least (value field)) Range None)) (value field)
number_from_agrees least most field =
    agrees_needs (is_canonical field) Number (needs (leb (value field) most) Range >>= λ _. needs (leb least (value field)) Range >>= λ _. Ok (value field)) (unless (leb (value field) most && leb least (value field)) Range None) (value field) (λ _.
    agrees_both (leb (value field) most) (leb least (value field)) Range (needs (leb least (value field)) Range >>= λ _. Ok (value field)) None (value field) (λ _.
    agrees_needs (leb least (value field)) Range (Ok (value field)) None (value field) (λ _. (refl, refl))))

pub number_agrees : (word : List ℕ) (least most : ℕ) → Agrees (number_after word least most) (count_tests word least most) count_of
unfolding number_after
number_agrees word least most line = by (fields line)
  where
    by : (parts : List (List ℕ)) → IsAgreed (in_form (two_of parts) >>= λ p. number_of_fields word least most p) (first_of (count_parts word least most parts)) (value (part 1 parts))
    by [] = refl
    by (a ∷ []) = refl
    by (a ∷ b ∷ []) =
        agrees_needs (bytes_eq a word) Form (number_from least most b) (unless (is_canonical b) Number (unless (leb (value b) most && leb least (value b)) Range None)) (value b) (λ _. number_from_agrees least most b)
    by (a ∷ b ∷ c ∷ parts) = rw many_parts refl

-- ---- what is due behind them

pub tracks_words : (words : List ℕ) → Tracks (due (fixed words)) (λ then. words_then words (then tt))
tracks_words words = tracks_due (fixed words) (words_tests words) (λ line. tt) (words_agree words)

pub tracks_count : (word : List ℕ) (least most : ℕ) → Tracks (due (number_after word least most)) (count_then word least most)
tracks_count word least most = tracks_due (number_after word least most) (count_tests word least most) count_of (number_agrees word least most)

pub tracks_section : {A : Type 0} (word : List ℕ) (least most : ℕ) (read : List A → List ℕ → Result A LineCode) (tests : List A → LineTests) (f : List ℕ → A) → ((before : List A) → Agrees (read before) (tests before) f)
    → Tracks (section_at word least most read) (section_then word least most tests f)
unfolding section_at
tracks_section {A} word least most read tests f agrees =
    tracks_then (due (number_after word least most)) (count_then word least most) (λ n. items_at read n []) (λ n then. lines_then tests f n [] then)
    (tracks_count word least most) (λ n. tracks_items read tests f agrees n [])
