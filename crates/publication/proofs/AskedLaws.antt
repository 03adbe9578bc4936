-- The lines of the mode and of the threshold: what is read is spelled so, and what is spelled so is read again.
use Rattle.std.proofs.Common.{◌≡◌, ℕ, ◌^◌, ◌<◌, ◌⊎◌, inl, inr, Bool, true, false, cond, List, [], ◌∷◌, Result, Ok, Err, ℤ, refl, sym, ap, ◌∙◌, arith, lit<, lit≤}
use Rattle.std.specs.Prelude.{codes}
use Rattle.std.specs.Fmt.{signed_decimal}
use Rattle.std.specs.Str.{bytes_eq}
use lib.Signed.{mag}
use Rattle.match_rules.specs.declared.answer.Level.{Level}
use Rattle.match_rules.specs.declared.answer.Level.TheVariants.{Unasked, Free, At}
use Rattle.match_rules.specs.declared.answer.Mode.{Mode}
use Rattle.match_rules.specs.declared.answer.Mode.TheVariants.{Whole, Fair}
use Rattle.match_rules.specs.Answers.{IsWithin, SuitsMode}
use Rattle.match_rules.specs.Rules.{most_score}
use Rattle.text_lines.specs.declared.fault.LineCode.{LineCode}
use Rattle.text_lines.specs.declared.fault.LineCode.TheVariants.{Form}
use Rattle.text_lines.specs.Fields.{fields, with_spaces, two_of}
use Rattle.text_lines.specs.Forms.{in_form, integer_from}
use Rattle.text_lines.specs.Reading.{◌>>=◌}
use Rattle.text_lines.proofs.FormLaws.{needs_ok, two_fields_spell, same_words}
use Rattle.text_lines.proofs.TextLaws.{Spells, IsLine, bind_ok, ok_is}
use Rattle.text_lines.proofs.WordLaws.{IsWord, ascii_word, ascii_line, fields-with_spaces, words_line, signed_word, signed_short, length-with_spaces_one, length-with_spaces_more}
use Rattle.publication.specs.declared.asked_forms.Asked.{Asked}
use Rattle.publication.specs.declared.asked_forms.Asked.TheVariants as asked
use Rattle.publication.specs.AskedForms.{mode_of, mode_line, or_form, score_in, score_of, threshold_of, score_line, threshold_line, IsAsked, mode_asked, mode_of_level}
use Rattle.publication.proofs.AnswerLaws.{mag_within, within_takes, within_again}
use Rattle.publication.proofs.CutLaws.{two_take}

-- ---- the mode

mode_is : (line : List ℕ) (mode : Mode) → ((line ≡ codes "mode whole") × (Whole ≡ mode)) ⊎ ((line ≡ codes "mode fair") × (Fair ≡ mode)) → line ≡ mode_line mode
unfolding mode_line
mode_is line mode (inl p) = rw (← p.1) p.0
mode_is line mode (inr p) = rw (← p.1) p.0

mode_again : (mode : Mode) → mode_of (mode_line mode) ≡ Ok mode
unfolding mode_of mode_line
mode_again Whole = refl
mode_again Fair = refl

mode_is_line : (mode : Mode) → IsLine (mode_line mode)
unfolding mode_line
mode_is_line Whole = ascii_line (codes "mode whole") refl refl (lit≤ tt)
mode_is_line Fair = ascii_line (codes "mode fair") refl refl (lit≤ tt)

pub mode_spells : Spells {A = Mode} (λ before. mode_of) (λ before mode. Unit {0}) mode_line
unfolding mode_of
mode_spells = record {
  sound = λ before line mode e. (tt, mode_is line mode (two_take line (codes "mode whole") (codes "mode fair") Whole Fair mode e));
  complete = λ before mode fits. mode_again mode;
  lines = λ before mode fits. mode_is_line mode;
}

-- ---- a score

threshold_word : IsWord (codes "threshold")
threshold_word = ascii_word (codes "threshold") refl refl refl

or_form_ok : {A : Type 0} (r : Result A LineCode) (x : A) → or_form r ≡ Ok x → r ≡ Ok x
or_form_ok (Ok y) x e = e
or_form_ok (Err code) x e = absurd cc

score_takes : (line : List ℕ) (found : Asked) → score_of line ≡ Ok found → (score : ℤ) × IsWithin most_score score × (line ≡ score_line score) × (asked.At score ≡ found)
unfolding score_of score_line
score_takes line found e =
    let a = bind_ok (in_form (two_of (fields line))) score_in found e in
    let b = needs_ok (bytes_eq a.0.0 (codes "threshold")) Form (or_form (integer_from most_score a.0.1) >>= λ score. Ok (asked.At score)) found a.2 in
    let c = bind_ok (or_form (integer_from most_score a.0.1)) (λ score. Ok (asked.At score)) found b.1 in
    let t = within_takes most_score a.0.1 c.0 (lit< tt) (or_form_ok (integer_from most_score a.0.1) c.0 c.1) in
    let word : with_spaces (a.0.0 ∷ a.0.1 ∷ []) ≡ with_spaces (codes "threshold" ∷ a.0.1 ∷ []) = ap (λ (w : List ℕ). with_spaces (w ∷ a.0.1 ∷ [])) (same_words a.0.0 (codes "threshold") b.0) in
    let number : with_spaces (codes "threshold" ∷ a.0.1 ∷ []) ≡ with_spaces (codes "threshold" ∷ signed_decimal c.0 ∷ []) = ap (λ (w : List ℕ). with_spaces (codes "threshold" ∷ w ∷ [])) t.0 in
    (c.0, t.1, two_fields_spell line a.0 a.1 ∙ word ∙ number, ok_is {E = LineCode} (asked.At c.0) found c.2)

score_again : (score : ℤ) → IsWithin most_score score → score_of (score_line score) ≡ Ok (asked.At score)
unfolding score_of score_line
score_again score h =
    let small : mag score < 2 ^ 63 = omega (arith, mag_within most_score score h) in
    rw (fields-with_spaces (codes "threshold") (signed_decimal score ∷ []) (threshold_word, (signed_word score small, tt))) (rw (within_again most_score score (lit< tt) h) refl)

score_is_line : (score : ℤ) → IsWithin most_score score → IsLine (score_line score)
unfolding score_line
score_is_line score h =
    let small : mag score < 2 ^ 63 = omega (arith, mag_within most_score score h) in
    words_line (codes "threshold" ∷ signed_decimal score ∷ []) (threshold_word, (signed_word score small, tt))
    (omega (arith, length-with_spaces_more (codes "threshold") (signed_decimal score) [], length-with_spaces_one (signed_decimal score), signed_short score small))

-- the words without a score are no score
free_no_score : score_of (codes "threshold free") ≡ Err Form
unfolding score_of fields
free_no_score = refl

-- ---- the threshold

abbrev pub FitsAsked : Mode → Asked → Type 0
FitsAsked mode found = (mode_asked found ≡ mode) × IsAsked found

whole_takes : (line : List ℕ) (found : Asked) → cond (bytes_eq line (codes "threshold none")) (Ok asked.Whole) (Err Form) ≡ Ok found → FitsAsked Whole found × (line ≡ threshold_line found)
unfolding threshold_line
whole_takes line found e = by (bytes_eq line (codes "threshold none")) refl e
  where
    by : (b : Bool) → bytes_eq line (codes "threshold none") ≡ b → cond b (Ok asked.Whole) (Err Form) ≡ Ok found → FitsAsked Whole found × (line ≡ threshold_line found)
    by true p e = let is : asked.Whole ≡ found = ok_is {E = LineCode} asked.Whole found e in rw (← is) ((refl, tt), same_words line (codes "threshold none") p)
    by false p e = absurd cc

fair_takes : (line : List ℕ) (found : Asked) → cond (bytes_eq line (codes "threshold free")) (Ok asked.Free) (score_of line) ≡ Ok found → FitsAsked Fair found × (line ≡ threshold_line found)
unfolding threshold_line
fair_takes line found e = by (bytes_eq line (codes "threshold free")) refl e
  where
    by : (b : Bool) → bytes_eq line (codes "threshold free") ≡ b → cond b (Ok asked.Free) (score_of line) ≡ Ok found → FitsAsked Fair found × (line ≡ threshold_line found)
    by true p e = let is : asked.Free ≡ found = ok_is {E = LineCode} asked.Free found e in rw (← is) ((refl, tt), same_words line (codes "threshold free") p)
    by false p e = let t = score_takes line found e in rw (← t.3) ((refl, t.1), t.2)

threshold_takes : (mode : Mode) (line : List ℕ) (found : Asked) → threshold_of mode line ≡ Ok found → FitsAsked mode found × (line ≡ threshold_line found)
unfolding threshold_of
threshold_takes Whole line found e = whole_takes line found e
threshold_takes Fair line found e = fair_takes line found e

-- a line with a score isn't that of no score
score_not_free : (score : ℤ) → IsWithin most_score score → bytes_eq (score_line score) (codes "threshold free") ≡ false
score_not_free score h = by (bytes_eq (score_line score) (codes "threshold free")) refl
  where
    by : (b : Bool) → bytes_eq (score_line score) (codes "threshold free") ≡ b → b ≡ false
    by true p =
        let same : score_line score ≡ codes "threshold free" = same_words (score_line score) (codes "threshold free") p in
        let clash : Ok (asked.At score) ≡ Err Form = sym (score_again score h) ∙ ap score_of same ∙ free_no_score in
        absurd cc
    by false p = refl

threshold_again : (mode : Mode) (found : Asked) → FitsAsked mode found → threshold_of mode (threshold_line found) ≡ Ok found
unfolding threshold_of threshold_line
threshold_again Whole asked.Whole fits = refl
threshold_again Fair asked.Whole fits = let clash : Whole ≡ Fair = fits.0 in absurd cc
threshold_again Whole asked.Free fits = let clash : Fair ≡ Whole = fits.0 in absurd cc
threshold_again Fair asked.Free fits = refl
threshold_again Whole (asked.At score) fits = let clash : Fair ≡ Whole = fits.0 in absurd cc
threshold_again Fair (asked.At score) fits = rw (score_not_free score fits.1) (score_again score fits.1)

threshold_is_line : (found : Asked) → IsAsked found → IsLine (threshold_line found)
unfolding threshold_line
threshold_is_line asked.Whole fits = ascii_line (codes "threshold none") refl refl (lit≤ tt)
threshold_is_line asked.Free fits = ascii_line (codes "threshold free") refl refl (lit≤ tt)
threshold_is_line (asked.At score) fits = score_is_line score fits

pub threshold_spells : (mode : Mode) → Spells {A = Asked} (λ before. threshold_of mode) (λ before. FitsAsked mode) threshold_line
threshold_spells mode = record {
  sound = λ before line found e. threshold_takes mode line found e;
  complete = λ before found fits. threshold_again mode found fits;
  lines = λ before found fits. threshold_is_line found fits.1;
}

-- ---- modes and levels

pub level_suits : (level : Level) → SuitsMode (mode_of_level level) level
level_suits Unasked = refl
level_suits Free = λ same. cc
level_suits (At score cut) = λ same. cc

pub suits_mode : (mode : Mode) (level : Level) → SuitsMode mode level → mode ≡ mode_of_level level
suits_mode Whole Unasked suits = refl
suits_mode Whole Free suits = let clash : Free ≡ Unasked = suits in absurd cc
suits_mode Whole (At score cut) suits = let clash : At score cut ≡ Unasked = suits in absurd cc
suits_mode Fair Unasked suits = absurd (suits refl)
suits_mode Fair Free suits = refl
suits_mode Fair (At score cut) suits = refl
