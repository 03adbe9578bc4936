-- The lines of a cut and the first line of an answer: what is read is spelled so, and what is spelled so is read again.
use Rattle.std.proofs.Common.{◌≡◌, ℕ, ◌^◌, ◌<◌, ◌≤◌, ◌⊎◌, inl, inr, Bool, true, false, cond, List, [], ◌∷◌, length, None, Some, Result, Ok, Err, refl, sym, ap, subst, ◌∙◌, arith, lit≤}
use Rattle.std.specs.Prelude.{map, decimal, nat_lt, codes}
use Rattle.std.specs.List.{list_all}
use Rattle.std.specs.Str.{bytes_eq}
use Rattle.match_rules.specs.declared.answer.Side.{Side}
use Rattle.match_rules.specs.declared.answer.Side.TheVariants.{Into, OutOf}
use Rattle.match_rules.specs.Answers.{AreMarks}
use Rattle.text_lines.specs.declared.fault.LineCode.{LineCode}
use Rattle.text_lines.specs.declared.fault.LineCode.TheVariants.{Form, Number, Range, Order}
use Rattle.text_lines.specs.Fields.{fields, with_spaces}
use Rattle.text_lines.specs.Forms.{needs}
use Rattle.text_lines.specs.Reading.{◌>>=◌}
use Rattle.text_lines.specs.Numbers.{is_canonical, value}
use Rattle.text_lines.proofs.FieldLaws.{with_spaces-fields}
use Rattle.text_lines.proofs.FormLaws.{needs_ok, same_words, words_same}
use Rattle.text_lines.proofs.TextLaws.{Spells, IsLine, ok_is}
use Rattle.text_lines.proofs.WordLaws.{IsWord, fields-with_spaces, words_line, ascii_line}
use Rattle.publication.specs.declared.answer_forms.AnswerKind.{AnswerKind}
use Rattle.publication.specs.declared.answer_forms.AnswerKind.TheVariants as kinds
use Rattle.publication.specs.AnswerForms.{ascends, kind_of}
use Rattle.publication.specs.CutForms.{side_of, side_line, marks_with, marks_from, marks_in, marks_of, marks_line}
use Rattle.publication.specs.Scans.{held, numbers_of}
use Rattle.publication.proofs.AscendLaws.{ascends_to, ascends_from}
use Rattle.publication.proofs.FitLaws.{below_all, all_below}
use Rattle.publication.proofs.PieceLaws.{all_held, same_places}
use Rattle.publication.proofs.PieceSpells.{spelled, are_spelled, short_line, few_places}

-- one of two lines of fixed words
abbrev of_two : {A : Type 0} → Bool → Bool → A → A → Result A LineCode
of_two a b x y = cond a (Ok x) (cond b (Ok y) (Err Form))

pub two_take : {A : Type 0} (line first second : List ℕ) (x y z : A) → of_two (bytes_eq line first) (bytes_eq line second) x y ≡ Ok z → ((line ≡ first) × (x ≡ z)) ⊎ ((line ≡ second) × (y ≡ z))
two_take {A} line first second x y z e = by (bytes_eq line first) (bytes_eq line second) refl refl e
  where
    by : (a b : Bool) → bytes_eq line first ≡ a → bytes_eq line second ≡ b → of_two a b x y ≡ Ok z → ((line ≡ first) × (x ≡ z)) ⊎ ((line ≡ second) × (y ≡ z))
    by true b p q e = inl (same_words line first p, ok_is {E = LineCode} x z e)
    by false true p q e = inr (same_words line second q, ok_is {E = LineCode} y z e)
    by false false p q e = absurd cc

-- ---- the first line of an answer

unfoldable pub kind_line : AnswerKind → List ℕ
kind_line kinds.Lottery = codes "lottery 1"
kind_line kinds.Infeasible = codes "infeasible 1"

kind_is : (line : List ℕ) (kind : AnswerKind) → ((line ≡ codes "lottery 1") × (kinds.Lottery ≡ kind)) ⊎ ((line ≡ codes "infeasible 1") × (kinds.Infeasible ≡ kind)) → line ≡ kind_line kind
unfolding kind_line
kind_is line kind (inl p) = rw (← p.1) p.0
kind_is line kind (inr p) = rw (← p.1) p.0

kind_again : (kind : AnswerKind) → kind_of (kind_line kind) ≡ Ok kind
unfolding kind_of kind_line
kind_again kinds.Lottery = refl
kind_again kinds.Infeasible = refl

kind_is_line : (kind : AnswerKind) → IsLine (kind_line kind)
unfolding kind_line
kind_is_line kinds.Lottery = ascii_line (codes "lottery 1") refl refl (lit≤ tt)
kind_is_line kinds.Infeasible = ascii_line (codes "infeasible 1") refl refl (lit≤ tt)

pub kind_spells : Spells {A = AnswerKind} (λ before. kind_of) (λ before kind. Unit {0}) kind_line
unfolding kind_of
kind_spells = record {
  sound = λ before line kind e. (tt, kind_is line kind (two_take line (codes "lottery 1") (codes "infeasible 1") kinds.Lottery kinds.Infeasible kind e));
  complete = λ before kind fits. kind_again kind;
  lines = λ before kind fits. kind_is_line kind;
}

-- ---- the side

side_is : (line : List ℕ) (side : Side) → ((line ≡ codes "cut into") × (Into ≡ side)) ⊎ ((line ≡ codes "cut out-of") × (OutOf ≡ side)) → line ≡ side_line side
unfolding side_line
side_is line side (inl p) = rw (← p.1) p.0
side_is line side (inr p) = rw (← p.1) p.0

side_again : (side : Side) → side_of (side_line side) ≡ Ok side
unfolding side_of side_line
side_again Into = refl
side_again OutOf = refl

side_is_line : (side : Side) → IsLine (side_line side)
unfolding side_line
side_is_line Into = ascii_line (codes "cut into") refl refl (lit≤ tt)
side_is_line OutOf = ascii_line (codes "cut out-of") refl refl (lit≤ tt)

pub side_spells : Spells {A = Side} (λ before. side_of) (λ before side. Unit {0}) side_line
unfolding side_of
side_spells = record {
  sound = λ before line side e. (tt, side_is line side (two_take line (codes "cut into") (codes "cut out-of") Into OutOf side e));
  complete = λ before side fits. side_again side;
  lines = λ before side fits. side_is_line side;
}

-- ---- marked places

-- places below a count that strictly ascend
pub record FitsMarks (count : ℕ) (places : List ℕ) : Type 0 where
  pub below : list_all (λ place. nat_lt place count) places ≡ true
  pub ascending : ascends places ≡ true

pub marks_are : (count : ℕ) (places : List ℕ) → FitsMarks count places → AreMarks count places
marks_are count places fits = (below_all count places fits.below, ascends_to places fits.ascending)

pub marks_fit : (count : ℕ) (places : List ℕ) → AreMarks count places → FitsMarks count places
marks_fit count places are = record { below = all_below count places are.0; ascending = ascends_from places are.1 }

-- a list with a field that is no number, and a list of numbers that are held in 32 bits
pub marks_no_number : (count : ℕ) (parts : List (List ℕ)) → numbers_of parts ≡ None → marks_from count parts ≡ Err Number
marks_no_number count parts e = by (list_all is_canonical parts) e
  where
    by : (b : Bool) → cond b (Some (map (λ part. held (value part)) parts)) None ≡ None → (needs b Number >>= λ _. marks_with count (map value parts)) ≡ Err Number
    by true e = absurd cc
    by false e = refl

marks_held : (count : ℕ) (parts : List (List ℕ)) → count < 2 ^ 32 → marks_with count (map (λ part. held (value part)) parts) ≡ marks_with count (map value parts)
marks_held count parts small = rw (all_held count parts small) (by (list_all (λ place. nat_lt place count) (map value parts)) refl)
  where
    rest : List ℕ → Result (List ℕ) LineCode
    rest places = needs (ascends places) Order >>= λ _. Ok places

    by : (b : Bool) → list_all (λ place. nat_lt place count) (map value parts) ≡ b
        → (needs b Range >>= λ _. rest (map (λ part. held (value part)) parts)) ≡ (needs b Range >>= λ _. rest (map value parts))
    by true e = rw (same_places count parts small e) refl
    by false e = refl

pub marks_numbers : (count : ℕ) (parts : List (List ℕ)) (places : List ℕ) → count < 2 ^ 32 → numbers_of parts ≡ Some places → marks_from count parts ≡ marks_with count places
marks_numbers count parts places small e = by (list_all is_canonical parts) e
  where
    by : (b : Bool) → cond b (Some (map (λ part. held (value part)) parts)) None ≡ Some places
        → (needs b Number >>= λ _. marks_with count (map value parts)) ≡ marks_with count places
    by true e = let is : map (λ part. held (value part)) parts ≡ places = cc in rw (← is) (sym (marks_held count parts small))
    by false e = absurd cc

marks_take : (word : List ℕ) (count : ℕ) (parts : List (List ℕ)) (places : List ℕ) → count < 2 ^ 32 → marks_in word count parts ≡ Ok places
    → FitsMarks count places × (parts ≡ word ∷ map decimal places)
marks_take word count [] places small e = absurd cc
marks_take word count (w ∷ ps) places small e =
    let a = needs_ok (bytes_eq w word) Form (marks_from count ps) places e in
    let b = needs_ok (list_all is_canonical ps) Number (marks_with count (map value ps)) places a.1 in
    let c = needs_ok (list_all (λ place. nat_lt place count) (map value ps)) Range (needs (ascends (map value ps)) Order >>= λ _. Ok (map value ps)) places b.1 in
    let d = needs_ok (ascends (map value ps)) Order (Ok (map value ps)) places c.1 in
    let is : map value ps ≡ places = ok_is {E = LineCode} (map value ps) places d.1 in
    let fits : FitsMarks count (map value ps) = record { below = c.0; ascending = d.0 } in
    let text : (w ∷ ps) ≡ word ∷ map decimal (map value ps) =
    ap (λ (q : List ℕ). q ∷ ps) (same_words w word a.0) ∙ ap (λ (qs : List (List ℕ)). word ∷ qs) (spelled count ps small b.0 c.0) in
    subst (λ (places : List ℕ). FitsMarks count places × ((w ∷ ps) ≡ word ∷ map decimal places)) is (fits, text)

pub marks_found : (word : List ℕ) (count : ℕ) (line places : List ℕ) → count < 2 ^ 32 → marks_of word count line ≡ Ok places → AreMarks count places
unfolding marks_of
marks_found word count line places small e = marks_are count places (marks_take word count (fields line) places small e).0

marks_again : (word : List ℕ) (count : ℕ) (places : List ℕ) → count < 2 ^ 32 → FitsMarks count places → marks_in word count (word ∷ map decimal places) ≡ Ok places
marks_again word count places small fits =
    let s = are_spelled count places small fits.below in
    rw (words_same word, s.canonical) (rw s.values (rw (fits.below, fits.ascending) refl))

pub marks_spells : (word : List ℕ) (count : ℕ) → IsWord word → length word ≤ 1000 → count ≤ 250000
    → Spells {A = List ℕ} (λ before. marks_of word count) (λ before places. FitsMarks count places) (marks_line word)
unfolding marks_of marks_line
marks_spells word count is short few = record {
  sound = λ before line places e.
      let t = marks_take word count (fields line) places (omega (arith, few)) e in
      (t.0, sym (with_spaces-fields line) ∙ ap with_spaces t.1);
  complete = λ before places fits.
      let s = are_spelled count places (omega (arith, few)) fits.below in
      rw (fields-with_spaces word (map decimal places) (is, s.words)) (marks_again word count places (omega (arith, few)) fits);
  lines = λ before places fits.
      let s = are_spelled count places (omega (arith, few)) fits.below in
      words_line (word ∷ map decimal places) (is, s.words)
      (omega (arith, short_line word count places (omega (arith, few)) fits.below, few_places count places fits.ascending fits.below, short, few));
}
